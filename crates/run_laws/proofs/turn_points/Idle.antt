-- The local rules hold of a term of which nothing runs: one that waits, or is lost.
--
-- All its points are then alike, at Later or at Gone, and each form keeps that. By induction over terms. The hard case is a
-- wait: it joins a point outside the term, which has to be lost only where all of the term is.
use Rattle.std.proofs.Common.{◌≡◌, ℕ, ◌+◌, ◌<◌, ◌≤◌, inl, inr, arith, sym, ◌∙◌, ap, List, [], ◌∷◌, ◌++◌}
use Rattle.core_term.specs.Term.{Term, One, Then, Both, Act, Cycle, Set, Send, Recv, If, When, Block, Wait, Pure, Nothing, site, head}
use Rattle.core_term.specs.Points.{Spot, TermBegin, TermEnd, Begin, End, NoSide, Formed, forms, act_forms}
use Rattle.core_term.specs.Occurs.{Occurrence, Later, Gone, At, SameRule, SideRule, AfterRule, SyncRule, JoinRule, MergeRule, Obeys}
use Rattle.core_term.specs.Numbering.{size, act_size, OneOf, Numbered, NumberedAct}
use Rattle.core_term.proofs.code_tables.FirstSites.{head_site, act_site, size_positive, act_size_positive}

pub data Idle : Occurrence → Type 0 where
  later : Idle Later
  gone : Idle Gone

pub idle_not : {w : Occurrence} {t : ℕ} → Idle w → w ≡ At t → ⊥
idle_not later e = cc
idle_not gone e = cc

pub same_eq : {T : ℕ} {b c : Occurrence} → b ≡ c → SameRule T b c
same_eq e = record { up = λ t f. sym e ∙ f; down = λ t l f. e ∙ f; lost = λ f. e ∙ f }

pub side_eq : {T : ℕ} {b c : Occurrence} → b ≡ c → SideRule T b c
side_eq e = record { up = λ t f. sym e ∙ f; down = λ t l f. inr (e ∙ f); lost = λ f. e ∙ f }

pub after_idle : {T n : ℕ} {b c w : Occurrence} → Idle w → b ≡ w → c ≡ w → AfterRule T n b c
after_idle i e f = record { up = λ t g. absurd (idle_not i (sym e ∙ g)); down = λ s l g. absurd (idle_not i (sym f ∙ g)); lost = λ g. e ∙ (sym f ∙ g) }

pub sync_idle : {T : ℕ} {b c w : Occurrence} → Idle w → b ≡ w → SyncRule T b c
sync_idle i e = record { up = λ t g. absurd (idle_not i (sym e ∙ g)) }

pub join_idle : {T : ℕ} {b c d w : Occurrence} → Idle w → b ≡ w → c ≡ w → (d ≡ Gone → w ≡ Gone) → JoinRule T b c d
join_idle {w = w} i e f g =
    record {
      up = λ t k. absurd (idle_not i (sym e ∙ k));
      down = λ s u l m k n. absurd (idle_not i (sym f ∙ k));
      lost = elim [ inl k ↦ e ∙ (sym f ∙ k) | inr k ↦ e ∙ g k ];
    }

pub merge_idle : {T : ℕ} {b c d w : Occurrence} → Idle w → b ≡ w → c ≡ w → d ≡ w → MergeRule T b c d
merge_idle i e f g =
    record {
      up = λ t k. absurd (idle_not i (sym e ∙ k));
      first = λ t l k. absurd (idle_not i (sym f ∙ k));
      second = λ t l k. absurd (idle_not i (sym g ∙ k));
      lost = λ k l. e ∙ (sym f ∙ k);
    }

pub obeys_append : (T : ℕ) (o : Spot → Occurrence) (all_forms more_forms : List Formed) → Obeys T o all_forms → Obeys T o more_forms → Obeys T o (all_forms ++ more_forms)
obeys_append T o [] more_forms p q = q
obeys_append T o (f ∷ all_forms) more_forms p q = (p.0, obeys_append T o all_forms more_forms p.1 q)

-- each point of the site q is at w
pub record Still (o : Spot → Occurrence) (w : Occurrence) (q : ℕ) : Type 0 where
  pub term_begin : o (TermBegin q) ≡ w
  pub term_end : o (TermEnd q) ≡ w
  pub begin : o (Begin q) ≡ w
  pub end : o (End q) ≡ w
  pub no : o (NoSide q) ≡ w

pub record Stills (o : Spot → Occurrence) (w : Occurrence) (low high : ℕ) : Type 0 where
  pub each : (q : ℕ) → low ≤ q → q < high → Still o w q

part : {o : Spot → Occurrence} {w : Occurrence} {low high : ℕ} → Stills o w low high → (a b : ℕ) → low ≤ a → b ≤ high → Stills o w a b
part s a b l h = record { each = λ q m n. s.each q (omega arith) (omega arith) }

-- a variable in scope is lost only where all is
abbrev pub Outer : (Spot → Occurrence) → Occurrence → List Act → Type 0
Outer o w vs = (y : ℕ) → OneOf vs y → o (End y) ≡ Gone → w ≡ Gone

module _ (T : ℕ) (o : Spot → Occurrence) (w : Occurrence) (i : Idle w) where
  outer_more : (vs : List Act) (c : Act) → Outer o w vs → o (End (site c)) ≡ w → Outer o w (c ∷ vs)
  outer_more vs c h e y (inl k) g = sym e ∙ (ap (λ z. o (End z)) (sym k) ∙ g)
  outer_more vs p h e y (inr k) g = h y k g

  mutual
    pub idle : (vs : List Act) (low : ℕ) (t : Term) → Numbered vs low t → Stills o w low (low + size t) → Outer o w vs → Obeys T o (forms t)
    idle vs low (One a) n s u =
        let is_less : 0 < act_size a = act_size_positive a in
        let here : Still o w (site a) = rw (act_site vs low a n) (s.each low (omega arith) (omega arith)) in
        (same_eq (here.begin ∙ sym here.term_begin), (same_eq (here.term_end ∙ sym here.end), act_idle vs low a n s u))
    idle vs low (Then a t) n s u =
        let next_is_less : 0 < act_size a = act_size_positive a in
        let last_is_less : 0 < size t = size_positive t in
        let here : Still o w (site a) = rw (act_site vs low a n.0) (s.each low (omega arith) (omega arith)) in
        let there : Still o w (site (head t)) = rw (head_site (a ∷ vs) (low + act_size a) t n.1) (s.each (low + act_size a) (omega arith) (omega arith)) in (
          same_eq (here.begin ∙ sym here.term_begin),
          (
            same_eq (there.term_begin ∙ sym here.end),
            (
              same_eq (here.term_end ∙ sym there.term_end),
              obeys_append T o (act_forms a) (forms t)
                  (act_idle vs low a n.0 (part s low (low + act_size a) (omega arith) (omega arith)) u)
                  (idle (a ∷ vs) (low + act_size a) t n.1 (part s (low + act_size a) (low + act_size a + size t) (omega arith) (omega arith)) (outer_more vs a u here.end)),
            ),
          ),
        )
    idle vs low (Both a t) n s u =
        let other_is_less : 0 < act_size a = act_size_positive a in
        let more_is_less : 0 < size t = size_positive t in
        let here : Still o w (site a) = rw (act_site vs low a n.0) (s.each low (omega arith) (omega arith)) in
        let there : Still o w (site (head t)) = rw (head_site (a ∷ vs) (low + act_size a) t n.1) (s.each (low + act_size a) (omega arith) (omega arith)) in (
          same_eq (here.begin ∙ sym here.term_begin),
          (
            same_eq (there.term_begin ∙ sym here.term_begin),
            (
              join_idle i here.term_end here.end (λ e. sym there.term_end ∙ e),
              obeys_append T o (act_forms a) (forms t)
                  (act_idle vs low a n.0 (part s low (low + act_size a) (omega arith) (omega arith)) u)
                  (idle (a ∷ vs) (low + act_size a) t n.1 (part s (low + act_size a) (low + act_size a + size t) (omega arith) (omega arith)) (outer_more vs a u here.end)),
            ),
          ),
        )

    pub act_idle : (vs : List Act) (low : ℕ) (a : Act) → NumberedAct vs low a → Stills o w low (low + act_size a) → Outer o w vs → Obeys T o (act_forms a)
    act_idle vs low (Cycle p k) n s u =
        let here : Still o w p = rw n (s.each low (omega arith) (omega arith)) in
        (after_idle i here.end here.begin, tt)
    act_idle vs low (Set p r e) n s u =
        let here : Still o w p = rw n.0 (s.each low (omega arith) (omega arith)) in
        (after_idle i here.end here.begin, tt)
    act_idle vs low (Send p m e) n s u =
        let here : Still o w p = rw n.0 (s.each low (omega arith) (omega arith)) in
        (sync_idle i here.end, tt)
    act_idle vs low (Recv p m) n s u =
        let here : Still o w p = rw n (s.each low (omega arith) (omega arith)) in
        (sync_idle i here.end, tt)
    act_idle vs low (If p e t f worded) n s u =
        let is_less : 0 < size t = size_positive t in
        let next_is_less : 0 < size f = size_positive f in
        let here : Still o w p = rw n.0 (s.each low (omega arith) (omega arith)) in
        let yes : Still o w (site (head t)) = rw (head_site vs (low + 1) t n.1) (s.each (low + 1) (omega arith) (omega arith)) in
        let no : Still o w (site (head f)) = rw (head_site vs (low + (1 + size t)) f n.2) (s.each (low + (1 + size t)) (omega arith) (omega arith)) in (
          side_eq (yes.term_begin ∙ sym here.begin),
          (
            side_eq (no.term_begin ∙ sym here.begin),
            (
              merge_idle i here.end yes.term_end no.term_end,
              obeys_append T o (forms t) (forms f)
                  (idle vs (low + 1) t n.1 (part s (low + 1) (low + 1 + size t) (omega arith) (omega arith)) u)
                  (idle vs (low + (1 + size t)) f n.2 (part s (low + (1 + size t)) (low + (1 + size t) + size f) (omega arith) (omega arith)) u),
            ),
          ),
        )
    act_idle vs low (When p e t) n s u =
        let last_is_less : 0 < size t = size_positive t in
        let here : Still o w p = rw n.0 (s.each low (omega arith) (omega arith)) in
        let yes : Still o w (site (head t)) = rw (head_site vs (low + 1) t n.1) (s.each (low + 1) (omega arith) (omega arith)) in (
          side_eq (yes.term_begin ∙ sym here.begin),
          (
            side_eq (here.no ∙ sym here.begin),
            (
              merge_idle i here.end yes.term_end here.no,
              idle vs (low + 1) t n.1 (part s (low + 1) (low + 1 + size t) (omega arith) (omega arith)) u,
            ),
          ),
        )
    act_idle vs low (Block p t) n s u =
        let is_less : 0 < size t = size_positive t in
        let here : Still o w p = rw n.0 (s.each low (omega arith) (omega arith)) in
        let within : Still o w (site (head t)) = rw (head_site vs (low + 1) t n.1) (s.each (low + 1) (omega arith) (omega arith)) in (
          same_eq (within.term_begin ∙ sym here.begin),
          (
            same_eq (here.end ∙ sym within.term_end),
            idle vs (low + 1) t n.1 (part s (low + 1) (low + 1 + size t) (omega arith) (omega arith)) u,
          ),
        )
    act_idle vs low (Wait p y) n s u =
        let here : Still o w p = rw n.0 (s.each low (omega arith) (omega arith)) in
        (join_idle i here.end here.begin (u y n.1), tt)
    act_idle vs low (Pure p e) n s u =
        let here : Still o w p = rw n.0 (s.each low (omega arith) (omega arith)) in
        (same_eq (here.end ∙ sym here.begin), tt)
    act_idle vs low (Nothing p) n s u =
        let here : Still o w p = rw n (s.each low (omega arith) (omega arith)) in
        (same_eq (here.end ∙ sym here.begin), tt)
