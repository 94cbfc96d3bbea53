use Rattle.std.proofs.Common.{◌≡◌, ℕ, List, [], ◌∷◌, ◌∙◌, Some, append-nil, inl, inr, refl, subst, sym, true}
use Rattle.std.proofs.lemmas.List.Elements.{All-nil}
use Rattle.connect_codec.specs.declared.answer.Outcome.{Outcome}
use Rattle.gateway_model.specs.Job.{JobValue}
use Rattle.gateway_model.specs.Queue.{IsPrefixOf}
use Rattle.http_pieces.specs.Cut.{Complete, IsCut}
use Rattle.http_pieces.specs.ReplyHead.{reply_kind}
use Rattle.std.specs.declared.net.socket_addr.SocketAddr.{SocketAddr}
use Rattle.loop_model.specs.Asking.{BeginsRequest, IsUntouched}
use Rattle.loop_model.specs.Requests.{request_of}
use Rattle.loop_model.specs.Shares.{IsStreamFor, IsWhole}
use Rattle.loop_model.specs.Streams.{IsNew, ShareValue, share_value, stream_value}
use Rattle.loop_model.specs.declared.manner.Manner.{Manner}
use Rattle.loop_rows.specs.LoopRows.{asked_over}
use Rattle.wires.specs.Turns.{Came, Quiet, Turn, Went, got_of}
use Rattle.loop_rows.proofs.ExchangeLemmas.{all_one, none_read, prefix_of, some_is}
use Rattle.loop_rows.proofs.QuietLemmas.{IsQuiet}
use Rattle.loop_rows.proofs.RowLemmas.{on_off}
use Rattle.loop_rows.proofs.ShareRows.{one_whole}
use Rattle.loop_rows.proofs.rows_of_exchanges.ends_over_kept_streams.Goals as goal

-- its request was written whole, behind a read that said that nothing was there, and then this was done
begins_over : (m : Manner) (a : SocketAddr) (i j : JobValue) (first : List Turn) (p : Outcome) (after : List Turn)
    → m.keeps ≡ true → i.address ≡ j.address → IsWhole m (share_value i first (Some p))
    → IsPrefixOf (got_of (Quiet ∷ Went (request_of m j) ∷ after)) (request_of m j)
    → BeginsRequest m (asked_over a j (share_value i first (Some p) ∷ []) (Quiet ∷ Went (request_of m j) ∷ after))
begins_over m a i j first p after keeps same whole prefix =
    let x = share_value i first (Some p) in record {
      new = All-nil IsNew;
      untouched = All-nil IsUntouched;
      goes_over = all_one (IsStreamFor m j.address) (stream_value a (x ∷ []) (Quiet ∷ Went (request_of m j) ∷ after)) record {
        shares = one_whole m x whole;
        same = all_one (λ (y : ShareValue). y.job.address ≡ j.address) x same;
        quiet = λ used. record { idle = []; first = request_of m j; after = after; quiet = All-nil IsQuiet; are = refl };
        kept = λ off. absurd (on_off (sym keeps ∙ off));
      };
      prefix = prefix;
      addressed = record { later = a ∷ []; in_order = inr refl };
    }

-- .. all of it, and nothing else
whole_request : (m : Manner) (j : JobValue) → IsPrefixOf (got_of (Quiet ∷ Went (request_of m j) ∷ [])) (request_of m j)
whole_request m j = prefix_of (request_of m j) (request_of m j) [] (sym (append-nil (request_of m j)))

pub returns-clause-answered : goal.returns-clause-answered
returns-clause-answered c m a i j first p reply given rest keeps same whole cut own = record {
  begun = begins_over m a i j first p (Came given ∷ []) keeps same whole (whole_request m j);
  outcome = λ o is. inr record {
    whole = append-nil (request_of m j);
    reply = reply;
    begins = (rest, subst (λ (t : List ℕ). IsCut (reply_kind m.framing) t (Complete reply rest)) (sym (append-nil given)) cut);
    own = own;
    outcome_is = sym (some_is _ o is);
  };
}

pub returns-clause-stray : goal.returns-clause-stray
returns-clause-stray c m a i j first p reply given rest keeps same whole cut stray = record {
  begun = begins_over m a i j first p (Came given ∷ []) keeps same whole (whole_request m j);
  outcome = λ o is. inl (
    sym (some_is _ o is),
    λ all. inr (reply, (rest, subst (λ (t : List ℕ). IsCut (reply_kind m.framing) t (Complete reply rest)) (sym (append-nil given)) cut), stray),
  );
}

pub returns-clause-lost : goal.returns-clause-lost
returns-clause-lost c m a i j first p keeps same whole = record {
  begun = begins_over m a i j first p [] keeps same whole (whole_request m j);
  outcome = λ o is. inl (sym (some_is _ o is), λ all. inl (λ reply begins. none_read m.framing reply begins.0 begins.1));
}
