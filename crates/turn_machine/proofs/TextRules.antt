-- What the forms of a body's points tell of the text: a delay takes time, a wait for a partner is the end of an act on a port, a side
-- begins a side of an `if`, and a join that is no wait is that of a chain whose parts begin together.
--
-- By induction over terms, with where each part stands in the body.
use Rattle.std.proofs.Common.{◌≡◌, ℕ, ◌<◌, ◌⊎◌, inl, inr, arith, refl, subst, false, List, [], ◌∷◌, ◌++◌}
use Rattle.order_rules.specs.Form.{Form, Start, Same, After, Sync, Join, Side, Merge}
use Rattle.core_term.specs.Term.{Term, One, Then, Both, Act, Cycle, Set, Send, Recv, If, When, Block, Wait, Pure, Nothing, site, head}
use Rattle.core_term.specs.Tail.{CyclesTakeTime, CyclesTakeTimeIn}
use Rattle.core_term.specs.Stands.{Stands, StandsIn, here, in_one, in_then, after_then, in_both, after_both, in_yes, in_no, in_when, in_block}
use Rattle.core_term.specs.Acts.{OnPort}
use Rattle.core_term.specs.Points.{Spot, TermBegin, Begin, End, NoSide, Formed, forms, act_forms}
use Rattle.core_term.specs.Order.{IsFormed}
use Rattle.run_laws.proofs.graph_tables.OfText.{in_left, in_right}
use Rattle.turn_machine.specs.Draws.{IsChainJoin}
use Rattle.turn_machine.proofs.TailRules.{is_no_chain}

-- the point begins a side of the act
abbrev pub BeginsSide : Act → Spot → Type 0
BeginsSide (If p condition first second valued) point = (point ≡ TermBegin (site (head first))) ⊎ (point ≡ TermBegin (site (head second)))
BeginsSide (When p condition first) point = (point ≡ TermBegin (site (head first))) ⊎ (point ≡ NoSide p)
BeginsSide act point = ⊥

-- an act of which this holds stands at the site
abbrev pub StandsAt : Term → (place : ℕ) → (Act → Type 0) → Type 0
StandsAt body place Holds = (scope : List Act) × (term : Term) × Stands [] body scope term × (site (head term) ≡ place) × Holds (head term)

module _ (body : Term) where
  abbrev pub TextRule : Spot → Form Spot → Type 0
  TextRule point Start = ⊥
  TextRule point (Same from) = Unit {0}
  TextRule point (After delay from) = 0 < delay
  TextRule point (Sync from) = (place : ℕ) × (point ≡ End place) × (from ≡ Begin place) × StandsAt body place (λ act. (port : ℕ) × OnPort act port)
  TextRule point (Side from) = (place : ℕ) × (from ≡ Begin place) × StandsAt body place (λ act. BeginsSide act point)
  TextRule point (Join first second) = is_no_chain point ≡ false → IsChainJoin body point first second
  TextRule point (Merge first second) = Unit {0}

  abbrev pub TextRules : List Formed → Type 0
  TextRules [] = Unit {0}
  TextRules (formed ∷ rest) = TextRule formed.spot formed.form × TextRules rest

  append : (these those : List Formed) → TextRules these → TextRules those → TextRules (these ++ those)
  append [] those rules more = more
  append (formed ∷ these) those rules more = (rules.0, append these those rules.1 more)

  pub text_rule : (these : List Formed) (point : Spot) (form : Form Spot) → IsFormed these point form → TextRules these → TextRule point form
  text_rule [] point form formed rules = elim formed [ ]
  text_rule (first ∷ rest) point form (inl same) rules = let RuleOf : Formed → Type 0 = λ z. TextRule z.spot z.form in subst RuleOf same rules.0
  text_rule (first ∷ rest) point form (inr formed) rules = text_rule rest point form formed rules.1

  -- a part of the body: its forms and its places are those of the body
  abbrev FormsOf : List Formed → Type 0
  FormsOf these = (point : Spot) (form : Form Spot) → IsFormed these point form → IsFormed (forms body) point form

  abbrev PlacesOf : List Act → Term → Type 0
  PlacesOf acts part = (inner_acts : List Act) (term : Term) → Stands acts part inner_acts term → Stands [] body inner_acts term

  abbrev PlacesIn : List Act → Act → Type 0
  PlacesIn acts act = (inner_acts : List Act) (term : Term) → StandsIn acts act inner_acts term → Stands [] body inner_acts term

  mutual
    pub text_rules : (acts : List Act) (part : Term) → CyclesTakeTime part → FormsOf (forms part) → PlacesOf acts part → TextRules (forms part)
    text_rules acts (One act) cycles formed places =
        (tt, (tt, act_text_rules acts act (One act) refl acts cycles (λ point form is. formed point form (inr (inr is))) (places acts (One act) here) (λ inner_acts term stands. places inner_acts term (in_one stands))))
    text_rules acts (Then act rest) cycles formed places = (
      tt,
      (
        tt,
        (
          tt,
          append (act_forms act) (forms rest)
              (act_text_rules acts act (Then act rest) refl acts cycles.0 (λ point form is. formed point form (inr (inr (inr (in_left (act_forms act) (forms rest) point form is))))) (places acts (Then act rest) here)
              (λ inner_acts term stands. places inner_acts term (in_then stands)))
              (text_rules (act ∷ acts) rest cycles.1 (λ point form is. formed point form (inr (inr (inr (in_right (act_forms act) (forms rest) point form is))))) (λ inner_acts term stands. places inner_acts term (after_then stands))),
        ),
      ),
    )
    text_rules acts (Both act rest) cycles formed places = (
      tt,
      (
        tt,
        (
          (λ is_chain. (site act, site (head rest), refl, refl, refl, formed (TermBegin (site (head rest))) (Same (TermBegin (site act))) (inr (inl refl)))),
          append (act_forms act) (forms rest)
              (act_text_rules acts act (Both act rest) refl acts cycles.0 (λ point form is. formed point form (inr (inr (inr (in_left (act_forms act) (forms rest) point form is))))) (places acts (Both act rest) here)
              (λ inner_acts term stands. places inner_acts term (in_both stands)))
              (text_rules (act ∷ acts) rest cycles.1 (λ point form is. formed point form (inr (inr (inr (in_right (act_forms act) (forms rest) point form is))))) (λ inner_acts term stands. places inner_acts term (after_both stands))),
        ),
      ),
    )

    act_text_rules : (acts : List Act) (act : Act) (whole : Term) → head whole ≡ act → (whole_acts : List Act) → CyclesTakeTimeIn act → FormsOf (act_forms act) → Stands [] body whole_acts whole → PlacesIn acts act → TextRules (act_forms act)
    act_text_rules acts (Cycle p count) whole heads whole_acts cycles formed stands places = (cycles, tt)
    act_text_rules acts (Set p register value) whole heads whole_acts cycles formed stands places = (omega arith, tt)
    act_text_rules acts (Send p port value) whole heads whole_acts cycles formed stands places = ((p, refl, refl, (whole_acts, whole, stands, rw heads refl, (port, rw heads refl))), tt)
    act_text_rules acts (Recv p port) whole heads whole_acts cycles formed stands places = ((p, refl, refl, (whole_acts, whole, stands, rw heads refl, (port, rw heads refl))), tt)
    act_text_rules acts (If p condition first second valued) whole heads whole_acts cycles formed stands places = (
      (p, refl, (whole_acts, whole, stands, rw heads refl, rw heads (inl refl))),
      (
        (p, refl, (whole_acts, whole, stands, rw heads refl, rw heads (inr refl))),
        (
          tt,
          append (forms first) (forms second)
              (text_rules acts first cycles.0 (λ point form is. formed point form (inr (inr (inr (in_left (forms first) (forms second) point form is))))) (λ inner_acts term inner. places inner_acts term (in_yes inner)))
              (text_rules acts second cycles.1 (λ point form is. formed point form (inr (inr (inr (in_right (forms first) (forms second) point form is))))) (λ inner_acts term inner. places inner_acts term (in_no inner))),
        ),
      ),
    )
    act_text_rules acts (When p condition first) whole heads whole_acts cycles formed stands places = (
      (p, refl, (whole_acts, whole, stands, rw heads refl, rw heads (inl refl))),
      (
        (p, refl, (whole_acts, whole, stands, rw heads refl, rw heads (inr refl))),
        (
          tt,
          text_rules acts first cycles (λ point form is. formed point form (inr (inr (inr is)))) (λ inner_acts term inner. places inner_acts term (in_when inner)),
        ),
      ),
    )
    act_text_rules acts (Block p inner) whole heads whole_acts cycles formed stands places =
        (tt, (tt, text_rules acts inner cycles (λ point form is. formed point form (inr (inr is))) (λ inner_acts term stands_in. places inner_acts term (in_block stands_in))))
    act_text_rules acts (Wait p variable) whole heads whole_acts cycles formed stands places = ((λ is_chain. absurd cc), tt)
    act_text_rules acts (Pure p value) whole heads whole_acts cycles formed stands places = (tt, tt)
    act_text_rules acts (Nothing p) whole heads whole_acts cycles formed stands places = (tt, tt)
