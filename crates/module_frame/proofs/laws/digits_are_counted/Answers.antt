use Rattle.module_frame.proofs.DigitCounts.{some_digits, enough_digits, needed_digits, few_digits, one_digit}
use Rattle.module_frame.proofs.laws.digits_are_counted.Goals as goal

pub returns : goal.returns
returns c = record { some = some_digits; enough = enough_digits; needed = needed_digits; few = few_digits; of_one = one_digit }
