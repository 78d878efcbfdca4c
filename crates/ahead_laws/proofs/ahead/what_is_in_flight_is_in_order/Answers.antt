use Rattle.ahead_laws.proofs.Keeping.{operand-there, agrees-at}
use Rattle.ahead_laws.proofs.ahead.what_is_in_flight_is_in_order.Goals as goal

pub returns : goal.returns
returns c = record {
  operand = λ x start w p ahead r value range here found. operand-there x start w p ahead here range r value found;
  lanes = λ x start w p ahead lanes here sent. (agrees-at x start w p ahead here).sent_is lanes sent;
  result = λ x start w p ahead result here computed. (agrees-at x start w p ahead here).result_is result computed;
}
