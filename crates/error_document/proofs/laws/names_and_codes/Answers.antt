use Rattle.error_document.proofs.Names.{code_named-code_name, code_name-code_named}
use Rattle.error_document.proofs.laws.names_and_codes.Goals as goal

pub returns-clause-by_its_name : goal.returns-clause-by_its_name
returns-clause-by_its_name c = code_named-code_name

pub returns-clause-by_no_other : goal.returns-clause-by_no_other
returns-clause-by_no_other c = code_name-code_named
