use Rattle.error_document.proofs.Texts.{text_without_message, text_with_message, text_with_details, text_of_detail}
use Rattle.error_document.proofs.laws.text_of_an_error.Goals as goal

pub returns-clause-without_message : goal.returns-clause-without_message
returns-clause-without_message c = text_without_message

pub returns-clause-with_message : goal.returns-clause-with_message
returns-clause-with_message c = text_with_message

pub returns-clause-with_details : goal.returns-clause-with_details
returns-clause-with_details c = text_with_details

pub returns-clause-of_a_detail : goal.returns-clause-of_a_detail
returns-clause-of_a_detail c = text_of_detail
