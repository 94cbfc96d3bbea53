-- What a branch is asked, without its borrows.
use Rattle.std.specs.Prelude.{List, []}
use Rattle.std.specs.Option.{option_copied}
use Rattle.http_pieces.specs.Fields.{NamedValue}
use Rattle.connect_codec.specs.BranchRequest.{BranchCall}
use Rattle.connect_codec.specs.declared.ask.BranchAsk.{BranchAsk}

-- the values behind the borrows, and the fields that are passed on
abbrev pub call_passing : List NamedValue → BranchAsk → BranchCall
call_passing passed ask = record {
  address = ask.address.now;
  path = ask.path.now;
  remaining = ask.remaining;
  request_id = option_copied ask.request_id;
  passed = passed;
  body = ask.body.now;
  keeps = ask.keeps;
}

-- no field is passed on
abbrev pub call_of : BranchAsk → BranchCall
call_of ask = call_passing [] ask
