-- The deeds of a numbered body are those of its acts in tree order, and so cost what its acts cost.
--
-- The deed of each act stands at its site, and the sites count up in tree order (by induction over the body). Where there are as many
-- deeds as acts, nothing else stands in the list.
use Rattle.std.proofs.Common.{◌≡◌, ℕ, ◌+◌, arith, refl, sym, ◌∙◌, subst, ap, List, [], ◌∷◌, ◌++◌, length, slice_get, Some, zero, suc}
use Rattle.core_term.specs.Term.{Term, One, Then, Both, Act, Cycle, Set, Send, Recv, If, When, Block, Wait, Pure, Nothing, site, head}
use Rattle.core_term.specs.Numbering.{size, act_size, Numbered, NumberedAct}
use Rattle.core_term.specs.Stands.{Stands, StandsIn, here, in_one, in_then, after_then, in_both, after_both, in_yes, in_no, in_when, in_block}
use Rattle.core_term.proofs.code_tables.FirstSites.{act_site}
use Rattle.process_machine.specs.StateBits.{acts_bits, act_bits}
use Rattle.act_deeds.specs.declared.deed.Deed.{Deed}
use Rattle.act_deeds.specs.Deeds.{AreDeeds, deed_in}
use Rattle.act_deeds.proofs.DeedsRead.{plain, plain_inner, plain_act, plain_size}
use Rattle.act_deeds.proofs.Sitting.{Sits}
use Rattle.module_frame.specs.Bits.{deeds_bits}

-- lists that stand in the table, put together
sits_more : {A : Type 0} (table : List A) (low : ℕ) (item : A) (rest : List A) → slice_get table low ≡ Some item → Sits table (low + 1) rest → Sits table low (item ∷ rest)
sits_more table low item rest first others zero found is = let same : low ≡ low + zero = omega arith in subst (λ n. slice_get table n ≡ Some found) same (first ∙ is)
sits_more table low item rest first others (suc k) found is =
    let same : low + 1 + k ≡ low + suc k = omega arith in subst (λ n. slice_get table n ≡ Some found) same (others k found is)

sits_both : {A : Type 0} (table these those : List A) (low count : ℕ) → length these ≡ count → Sits table low these → Sits table (low + count) those → Sits table low (these ++ those)
sits_both table [] those low count is one other = let same : low + count ≡ low = omega (arith, is) in subst (λ n. Sits table n those) same other
sits_both table (item ∷ these) those low count is one other =
    let first : slice_get table low ≡ Some item = (let same : low + 0 ≡ low = omega arith in subst (λ n. slice_get table n ≡ Some item) same (one 0 item refl)) in
    let next : low + count ≡ low + 1 + length these = omega (arith, is) in
    sits_more table low item (these ++ those) first
    (sits_both table these those (low + 1) (length these) refl
    (λ k found at. let same : low + suc k ≡ low + 1 + k = omega arith in subst (λ n. slice_get table n ≡ Some found) same (one (suc k) found at))
    (subst (λ n. Sits table n those) next other))

same_list : {A : Type 0} (table list : List A) → length table ≡ length list → Sits table 0 list → table ≡ list
same_list [] [] count sits = refl
same_list [] (item ∷ list) count sits = absurd (omega (arith, count))
same_list (first ∷ table) [] count sits = absurd (omega (arith, count))
same_list (first ∷ table) (item ∷ list) count sits =
    let one : first ≡ item = same_item (sits 0 item refl) in
    let others = same_list table list (omega (arith, count))
    (λ k found is. let at : slice_get (first ∷ table) (suc k) ≡ Some found = (let same : 0 + suc k ≡ suc k = omega arith in subst (λ n. slice_get (first ∷ table) n ≡ Some found) same (sits (suc k) found is)) in
    let same : k ≡ 0 + k = omega arith in subst (λ n. slice_get table n ≡ Some found) same at) in
    rw (one, others) refl
  where
    same_item : Some first ≡ Some item → first ≡ item
    same_item same = cc

module _ (table : List Deed) where
  abbrev At : Act → Type 0
  At a = slice_get table (site a) ≡ Some (deed_in a)

  first_sits : (vs : List Act) (low : ℕ) (a : Act) → NumberedAct vs low a → At a → Sits table (low + 1) (plain_inner a) → Sits table low (plain_act a)
  first_sits vs low a numbered at inner =
      sits_more table low (deed_in a) (plain_inner a) (subst (λ n. slice_get table n ≡ Some (deed_in a)) (act_site vs low a numbered) at) inner

  nothing_sits : (low : ℕ) → Sits table low []
  nothing_sits low k item is = absurd (none k is)
    where
      none : (k : ℕ) → slice_get [] k ≡ Some item → ⊥
      none k same = cc

  mutual
    term_sits : (vs : List Act) (low : ℕ) (t : Term) → Numbered vs low t → ((ws : List Act) (u : Term) → Stands vs t ws u → At (head u)) → Sits table low (plain t)
    term_sits vs low (One a) numbered at = act_sits vs low a numbered (at vs (One a) here) (λ ws u s. at ws u (in_one s))
    term_sits vs low (Then a t) numbered at =
        sits_both table (plain_act a) (plain t) low (act_size a) (plain_size (One a))
        (act_sits vs low a numbered.0 (at vs (Then a t) here) (λ ws u s. at ws u (in_then s)))
        (term_sits (a ∷ vs) (low + act_size a) t numbered.1 (λ ws u s. at ws u (after_then s)))
    term_sits vs low (Both a t) numbered at =
        sits_both table (plain_act a) (plain t) low (act_size a) (plain_size (One a))
        (act_sits vs low a numbered.0 (at vs (Both a t) here) (λ ws u s. at ws u (in_both s)))
        (term_sits (a ∷ vs) (low + act_size a) t numbered.1 (λ ws u s. at ws u (after_both s)))

    act_sits : (vs : List Act) (low : ℕ) (a : Act) → NumberedAct vs low a → At a → ((ws : List Act) (u : Term) → StandsIn vs a ws u → At (head u)) → Sits table low (plain_act a)
    act_sits vs low (If p e t f w) numbered at inside =
        let next : low + (1 + size t) ≡ low + 1 + size t = omega arith in
        first_sits vs low (If p e t f w) numbered at
        (sits_both table (plain t) (plain f) (low + 1) (size t) (plain_size t)
        (term_sits vs (low + 1) t numbered.1 (λ ws u s. inside ws u (in_yes s)))
        (subst (λ n. Sits table n (plain f)) next (term_sits vs (low + (1 + size t)) f numbered.2 (λ ws u s. inside ws u (in_no s)))))
    act_sits vs low (When p e t) numbered at inside = first_sits vs low (When p e t) numbered at (term_sits vs (low + 1) t numbered.1 (λ ws u s. inside ws u (in_when s)))
    act_sits vs low (Block p t) numbered at inside = first_sits vs low (Block p t) numbered at (term_sits vs (low + 1) t numbered.1 (λ ws u s. inside ws u (in_block s)))
    act_sits vs low (Cycle p n) numbered at inside = first_sits vs low (Cycle p n) numbered at (nothing_sits (low + 1))
    act_sits vs low (Set p r e) numbered at inside = first_sits vs low (Set p r e) numbered at (nothing_sits (low + 1))
    act_sits vs low (Send p m e) numbered at inside = first_sits vs low (Send p m e) numbered at (nothing_sits (low + 1))
    act_sits vs low (Recv p m) numbered at inside = first_sits vs low (Recv p m) numbered at (nothing_sits (low + 1))
    act_sits vs low (Wait p y) numbered at inside = first_sits vs low (Wait p y) numbered at (nothing_sits (low + 1))
    act_sits vs low (Pure p e) numbered at inside = first_sits vs low (Pure p e) numbered at (nothing_sits (low + 1))
    act_sits vs low (Nothing p) numbered at inside = first_sits vs low (Nothing p) numbered at (nothing_sits (low + 1))

deeds_plain : (body : Term) (deeds : List Deed) → Numbered [] 0 body → AreDeeds body deeds → deeds ≡ plain body
deeds_plain body deeds numbered are =
    same_list deeds (plain body) (are.count ∙ sym (plain_size body)) (term_sits deeds [] 0 body numbered are.at)

-- What they cost.

bits_append : (these those : List Deed) → deeds_bits (these ++ those) ≡ deeds_bits these + deeds_bits those
bits_append [] those = omega arith
bits_append (act ∷ these) those = let known = bits_append these those in omega (arith, known)

mutual
  plain_bits : (t : Term) → deeds_bits (plain t) ≡ acts_bits t
  plain_bits (One a) = inner_bits a
  plain_bits (Then a t) = let one = inner_bits a in let other = plain_bits t in let all = bits_append (plain_act a) (plain t) in omega (arith, one, other, all)
  plain_bits (Both a t) = let one = inner_bits a in let other = plain_bits t in let all = bits_append (plain_act a) (plain t) in omega (arith, one, other, all)

  inner_bits : (a : Act) → deeds_bits (plain_act a) ≡ act_bits a
  inner_bits (If p e t f w) = let one = plain_bits t in let other = plain_bits f in let all = bits_append (plain t) (plain f) in omega (arith, one, other, all)
  inner_bits (When p e t) = let one = plain_bits t in omega (arith, one)
  inner_bits (Block p t) = let one = plain_bits t in omega (arith, one)
  inner_bits (Cycle p n) = omega arith
  inner_bits (Set p r e) = omega arith
  inner_bits (Send p m e) = omega arith
  inner_bits (Recv p m) = omega arith
  inner_bits (Wait p y) = omega arith
  inner_bits (Pure p e) = omega arith
  inner_bits (Nothing p) = omega arith

pub deeds_cost : (body : Term) (deeds : List Deed) → Numbered [] 0 body → AreDeeds body deeds → deeds_bits deeds ≡ acts_bits body
deeds_cost body deeds numbered are = ap deeds_bits (deeds_plain body deeds numbered are) ∙ plain_bits body
