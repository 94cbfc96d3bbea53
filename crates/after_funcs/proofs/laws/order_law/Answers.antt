use Rattle.after_funcs.proofs.Order.{called_then_due, waiting_in_order}
use Rattle.after_funcs.proofs.laws.order_law.Goals as goal

pub returns : goal.returns
returns g c = record { called = called_then_due; registered = waiting_in_order }
