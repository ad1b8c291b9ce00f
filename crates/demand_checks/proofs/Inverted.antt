-- What the demands of a rule are, rule by rule; and what an act uses, told by its deed.
use Rattle.std.proofs.Common.{◌≡◌, ℕ, ◌⊎◌, inl, inr, refl, sym, ◌∙◌, ap, List, []}
use Rattle.std.specs.Prelude.{ℤ, pos, ◌-ℤ◌}
use Rattle.core_term.specs.declared.rules.Rule.{Rule}
use Rattle.core_term.specs.declared.rules.Rule.TheVariants.{V2, V6, V7, V8}
use Rattle.core_term.specs.Lists.{Has}
use Rattle.core_term.specs.Term.{Term, Act, Cycle, Set, Send, Recv, If, When, Block, Wait, Pure, Nothing, site, head}
use Rattle.core_term.specs.Stands.{Stands}
use Rattle.core_term.specs.Acts.{Receives, HasAct, ActOn, SetAt}
use Rattle.core_term.specs.Process.{Cycles, Until, Process, life_of}
use Rattle.core_term.specs.Order.{Point}
use Rattle.core_term.specs.Sources.{WireOf, RegOf, ChoiceOf}
use Rattle.core_term.specs.Rules.{Claim, Order, Either, Both, Demands, RestsOn, begin_of, end_of, next_begin_of, next_end_of, use_by, made, sets, receives, sends, sends_next, wire_within, wire_until, set_elsewhere, set_here, choice}
use Rattle.act_deeds.specs.declared.deed.Deed.{Deed}
use Rattle.demand_checks.specs.Deeds.{AreDeeds, deed_in, used, used_with}
use Rattle.demand_checks.specs.Thread.{IsSetElsewhere}
use Rattle.demand_checks.specs.Reads.{IsRead}
use Rattle.demand_checks.specs.Rests.{IsUse}
use Rattle.act_deeds.proofs.Deeds.{deed_stands}

used_act : (a : Act) (d : ℤ) (b : Point) → used_with (deed_in a) (site a) d b ≡ use_by a d b
used_act (Send q m e) d b = refl
used_act (Set q r e) d b = refl
used_act (If q e t u w) d b = refl
used_act (When q e t) d b = refl
used_act (Cycle q n) d b = refl
used_act (Recv q m) d b = refl
used_act (Block q t) d b = refl
used_act (Wait q y) d b = refl
used_act (Pure q e) d b = refl
used_act (Nothing q) d b = refl

pub used_is : (body : Term) (deeds : List Deed) → AreDeeds body deeds → (scope : List Act) (u : Term) → Stands [] body scope u → (user : ℕ) → site (head u) ≡ user → (d : ℤ) (b : Point)
    → used deeds user d b ≡ use_by (head u) d b
used_is body deeds are scope u stands user is d b =
    ap (λ one. used_with one user d b) (deed_stands body deeds are scope u stands user is) ∙ (ap (λ n. used_with (deed_in (head u)) n d b) (sym is) ∙ used_act (head u) d b)

-- V2
pub made_demand : (p : Process) (j : ℕ) (body : Term) (rule : Rule) (first second : ℕ) (claim : Claim) → Demands p j body rule first second claim → rule ≡ V2
    → IsRead body first second × (claim ≡ Order (end_of second) (pos 0) (begin_of first))
made_demand p j body _ _ _ _ (made scope u y stands reads) is = ((scope, u, stands, refl, reads), refl)
made_demand p j body _ _ _ _ (sets q r register one other less) is = absurd cc
made_demand p j body _ _ _ _ (receives q r m one other less) is = absurd cc
made_demand p j body _ _ _ _ (sends q r m one other less) is = absurd cc
made_demand p j body _ _ _ _ (sends_next q r m one other) is = absurd cc
made_demand p j body _ _ _ _ (wire_within u q m k rests received has) is = absurd cc
made_demand p j body _ _ _ _ (wire_until u q m n w rests received has on) is = absurd cc
made_demand p j body _ _ _ _ (set_elsewhere u q r i w other rests at differs written) is = absurd cc
made_demand p j body _ _ _ _ (set_here u q r w rests written) is = absurd cc
made_demand p j body _ _ _ _ (choice u q rests) is = absurd cc

-- V6
abbrev pub until_claim : (ℤ → Point → Claim) → (q w : ℕ) → Claim
until_claim used_by q w =
    Either (used_by (pos 0) (end_of q))
    (Both (Either (Order (end_of w) (pos 1) (end_of q)) (used_by (pos 0) (end_of w))) (used_by (pos 0) (next_end_of w)))

pub record WithinDemand (p : Process) (body : Term) (first second : ℕ) (claim : Claim) : Type 0 where
  pub user : Term
  pub site_is : site (head user) ≡ first
  pub rests : RestsOn body user (WireOf second)
  pub port : ℕ
  pub received : HasAct body second (λ a. Receives a port)
  pub cycles : ℕ
  pub has : Has (life_of p port) (Cycles cycles)
  pub claim_is : claim ≡ use_by (head user) (pos 1 -ℤ pos cycles) (end_of second)

pub record UntilDemand (p : Process) (body : Term) (first second : ℕ) (claim : Claim) : Type 0 where
  pub user : Term
  pub site_is : site (head user) ≡ first
  pub rests : RestsOn body user (WireOf second)
  pub port : ℕ
  pub received : HasAct body second (λ a. Receives a port)
  pub other : ℕ
  pub ending : ℕ
  pub has : Has (life_of p port) (Until other)
  pub on : ActOn body ending other
  pub claim_is : claim ≡ until_claim (use_by (head user)) second ending

pub wire_demand : (p : Process) (j : ℕ) (body : Term) (rule : Rule) (first second : ℕ) (claim : Claim) → Demands p j body rule first second claim → rule ≡ V6
    → WithinDemand p body first second claim ⊎ UntilDemand p body first second claim
wire_demand p j body _ _ _ _ (made scope u y stands reads) is = absurd cc
wire_demand p j body _ _ _ _ (sets q r register one other less) is = absurd cc
wire_demand p j body _ _ _ _ (receives q r m one other less) is = absurd cc
wire_demand p j body _ _ _ _ (sends q r m one other less) is = absurd cc
wire_demand p j body _ _ _ _ (sends_next q r m one other) is = absurd cc
wire_demand p j body _ _ _ _ (wire_within u q m k rests received has) is =
    inl (record { user = u; site_is = refl; rests = rests; port = m; received = received; cycles = k; has = has; claim_is = refl })
wire_demand p j body _ _ _ _ (wire_until u q m n w rests received has on) is =
    inr (record { user = u; site_is = refl; rests = rests; port = m; received = received; other = n; ending = w; has = has; on = on; claim_is = refl })
wire_demand p j body _ _ _ _ (set_elsewhere u q r i w other rests at differs written) is = absurd cc
wire_demand p j body _ _ _ _ (set_here u q r w rests written) is = absurd cc
wire_demand p j body _ _ _ _ (choice u q rests) is = absurd cc

-- V7
abbrev pub set_claim : (ℤ → Point → Claim) → (q w : ℕ) → Claim
set_claim used_by q w =
    Either (used_by (pos 0) (begin_of q))
    (Both (Either (Order (end_of w) (pos 0) (begin_of q)) (used_by (pos 0) (begin_of w))) (used_by (pos 0) (next_begin_of w)))

pub record ElsewhereDemand (p : Process) (j : ℕ) (body : Term) (first second : ℕ) (claim : Claim) : Type 0 where
  pub user : Term
  pub site_is : site (head user) ≡ first
  pub register : ℕ
  pub rests : RestsOn body user (RegOf second register)
  pub elsewhere : IsSetElsewhere p j register
  pub claim_is : claim ≡ use_by (head user) (pos 0) (begin_of second)

pub record HereDemand (body : Term) (first second : ℕ) (claim : Claim) : Type 0 where
  pub user : Term
  pub site_is : site (head user) ≡ first
  pub register : ℕ
  pub rests : RestsOn body user (RegOf second register)
  pub setting : ℕ
  pub written : SetAt body setting register
  pub claim_is : claim ≡ set_claim (use_by (head user)) second setting

pub read_demand : (p : Process) (j : ℕ) (body : Term) (rule : Rule) (first second : ℕ) (claim : Claim) → Demands p j body rule first second claim → rule ≡ V7
    → ElsewhereDemand p j body first second claim ⊎ HereDemand body first second claim
read_demand p j body _ _ _ _ (made scope u y stands reads) is = absurd cc
read_demand p j body _ _ _ _ (sets q r register one other less) is = absurd cc
read_demand p j body _ _ _ _ (receives q r m one other less) is = absurd cc
read_demand p j body _ _ _ _ (sends q r m one other less) is = absurd cc
read_demand p j body _ _ _ _ (sends_next q r m one other) is = absurd cc
read_demand p j body _ _ _ _ (wire_within u q m k rests received has) is = absurd cc
read_demand p j body _ _ _ _ (wire_until u q m n w rests received has on) is = absurd cc
read_demand p j body _ _ _ _ (set_elsewhere u q r i w other rests at differs written) is =
    inl (record { user = u; site_is = refl; register = r; rests = rests; elsewhere = (i, w, other, at, differs, written); claim_is = refl })
read_demand p j body _ _ _ _ (set_here u q r w rests written) is =
    inr (record { user = u; site_is = refl; register = r; rests = rests; setting = w; written = written; claim_is = refl })
read_demand p j body _ _ _ _ (choice u q rests) is = absurd cc

-- V8
pub choice_demand : (p : Process) (j : ℕ) (body : Term) (rule : Rule) (first second : ℕ) (claim : Claim) → Demands p j body rule first second claim → rule ≡ V8
    → (is_use : IsUse body first (ChoiceOf second)) × (claim ≡ use_by (head is_use.0) (pos 1) (next_begin_of second))
choice_demand p j body _ _ _ _ (made scope u y stands reads) is = absurd cc
choice_demand p j body _ _ _ _ (sets q r register one other less) is = absurd cc
choice_demand p j body _ _ _ _ (receives q r m one other less) is = absurd cc
choice_demand p j body _ _ _ _ (sends q r m one other less) is = absurd cc
choice_demand p j body _ _ _ _ (sends_next q r m one other) is = absurd cc
choice_demand p j body _ _ _ _ (wire_within u q m k rests received has) is = absurd cc
choice_demand p j body _ _ _ _ (wire_until u q m n w rests received has on) is = absurd cc
choice_demand p j body _ _ _ _ (set_elsewhere u q r i w other rests at differs written) is = absurd cc
choice_demand p j body _ _ _ _ (set_here u q r w rests written) is = absurd cc
choice_demand p j body _ _ _ _ (choice u q rests) is = ((u, refl, rests), refl)
