-- How long the act of a site uses what it uses, told from what it does.
use Rattle.std.specs.Prelude.{ℕ, ℤ, List}
use Rattle.core_term.specs.Order.{Point}
use Rattle.core_term.specs.Rules.{Claim, Order, Last, begin_of}
use Rattle.act_deeds.specs.declared.deed.Deed.{Deed}
use Rattle.act_deeds.specs.declared.deed.Deed.TheVariants.{Sets, Sends, Receives, Decides, Other}
pub use Rattle.act_deeds.specs.Deeds.{AreDeeds, deed_in, deed_or, deed_at}

-- that what the act of a site uses, + d, is no later than b: a `send` uses its value to the end of the life
abbrev pub used_with : Deed → ℕ → ℤ → Point → Claim
used_with (Sends m) user d b = Last user m d b
used_with (Sets r) user d b = Order (begin_of user) d b
used_with (Receives m) user d b = Order (begin_of user) d b
used_with Decides user d b = Order (begin_of user) d b
used_with Other user d b = Order (begin_of user) d b

abbrev pub used : List Deed → ℕ → ℤ → Point → Claim
used deeds user d b = used_with (deed_at deeds user) user d b
