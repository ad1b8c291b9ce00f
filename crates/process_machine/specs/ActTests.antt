-- Tests on the act of a site, told from a body: what a machine asks of the text, site by site.
use Rattle.std.specs.Prelude.{ℕ, ◌==◌, Bool, false, ◌&&◌, ◌||◌}
use Rattle.core_term.specs.Term.{Term, One, Then, Both, Act, Set, Send, Recv, If, When, Block, site}

-- the act is a `set` of the register, a `send` on the port, a `send` or `recv` on the port
abbrev pub sets_register : (register : ℕ) → Act → Bool
sets_register register (Set place target value) = target == register
sets_register register act = false

abbrev pub sends_on : (port : ℕ) → Act → Bool
sends_on port (Send place target value) = target == port
sends_on port act = false

abbrev pub is_on_port : (port : ℕ) → Act → Bool
is_on_port port (Send place target value) = target == port
is_on_port port (Recv place source) = source == port
is_on_port port act = false

-- the act of the site stands in a term, or inside an act, and passes the test
abbrev mutual
  pub passes_at : (test : Act → Bool) → Term → (place : ℕ) → Bool
  passes_at test (One act) place = ((site act == place) && test act) || passes_inside test act place
  passes_at test (Then act rest) place =
      (((site act == place) && test act) || passes_inside test act place) || passes_at test rest place
  passes_at test (Both act rest) place =
      (((site act == place) && test act) || passes_inside test act place) || passes_at test rest place

  pub passes_inside : (test : Act → Bool) → Act → (place : ℕ) → Bool
  passes_inside test (If p condition first second valued) place =
      passes_at test first place || passes_at test second place
  passes_inside test (When p condition first) place = passes_at test first place
  passes_inside test (Block p inner) place = passes_at test inner place
  passes_inside test act place = false
