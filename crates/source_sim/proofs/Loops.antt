-- Steps of the loops over the acts of a thread, over plain variables.
use Rattle.std.proofs.Common.{◌≡◌, ℕ, ◌<◌, ◌≤◌, arith, refl, sym, ◌∙◌, ap, List, [], ◌∷◌, length, take, drop, get_or, false, zero, suc}
use Rattle.std.specs.Prelude.{slice_set, slice_index_or}
use Rattle.std.proofs.Math.Seq.{drop-cons}
use Rattle.std.proofs.lemmas.List.{take_all, drop_all}
use Rattle.anvil_bits.specs.Number.{Number}
use Rattle.sim_laws.specs.declared.act_state.ActState.{ActState}
use Rattle.sim_laws.specs.declared.drive.Drive.{Drive}
use Rattle.sim_laws.specs.Passes.{drive_by, is_offered, drive_all, write_by, begins_now, write_all, cleared}

next_drop : (acts : List ActState) (i later : ℕ) (act : ActState) → later ≡ suc i → i < length acts → act ≡ get_or acts i act → drop i acts ≡ act ∷ drop later acts
next_drop acts i later act e l k = drop-cons acts i act l ∙ (ap (λ a. a ∷ drop (suc i) acts) (sym k) ∙ ap (λ n. act ∷ drop n acts) (sym e))

pub drive_step : (acts : List ActState) (i later : ℕ) (act : ActState) (drives drives' target : List Drive) → later ≡ suc i → i < length acts → act ≡ get_or acts i act → drive_all (drop i acts) drives ≡ target → drives' ≡ drive_by (is_offered act) act.does act.taken drives
    → drive_all (drop later acts) drives' ≡ target
drive_step acts i later act drives drives' target e l k before step = rw step (sym (ap (λ rest. drive_all rest drives) (next_drop acts i later act e l k)) ∙ before)

pub write_step : (acts : List ActState) (i later : ℕ) (act : ActState) (nexts nexts' target : List Number) → later ≡ suc i → i < length acts → act ≡ get_or acts i act → write_all (drop i acts) nexts ≡ target → nexts' ≡ write_by (begins_now act) act.does act.taken nexts
    → write_all (drop later acts) nexts' ≡ target
write_step acts i later act nexts nexts' target e l k before step = rw step (sym (ap (λ rest. write_all rest nexts) (next_drop acts i later act e l k)) ∙ before)

pub drive_done : (acts : List ActState) (i : ℕ) (drives target : List Drive) → length acts ≤ i → drive_all (drop i acts) drives ≡ target → drives ≡ target
drive_done acts i drives target l k = sym (ap (λ rest. drive_all rest drives) (drop_all i acts l)) ∙ k

pub write_done : (acts : List ActState) (i : ℕ) (nexts target : List Number) → length acts ≤ i → write_all (drop i acts) nexts ≡ target → nexts ≡ target
write_done acts i nexts target l k = sym (ap (λ rest. write_all rest nexts) (drop_all i acts l)) ∙ k

-- Clearing.

off : ActState → ActState
off m = record m { begun = false }

first_of : ActState → List ActState → ActState
first_of d [] = d
first_of d (m ∷ rest) = m

rest_of : List ActState → List ActState
rest_of [] = []
rest_of (m ∷ rest) = rest

pub cleared_set : (acts : List ActState) (i : ℕ) (d : ActState) → cleared (slice_set acts i (record (slice_index_or acts i d) { begun = false })) ≡ cleared acts
cleared_set [] i d = refl
cleared_set (m ∷ acts) zero d = refl
cleared_set (m ∷ acts) (suc i) d = ap (λ rest. (record m { begun = false }) ∷ rest) (cleared_set acts i d)

cleared_take : (acts : List ActState) (i : ℕ) (d : ActState) → i < length acts → take i acts ≡ take i (cleared acts) → take (suc i) (slice_set acts i (record (slice_index_or acts i d) { begun = false })) ≡ take (suc i) (cleared acts)
unfolding first_of rest_of
cleared_take [] i d l k = absurd (omega arith)
cleared_take (m ∷ acts) zero d l k = refl
cleared_take (m ∷ acts) (suc i) d l k =
    let head : m ≡ record m { begun = false } = ap (first_of m) k in
    let tail : take i acts ≡ take i (cleared acts) = ap rest_of k in
    ap (λ a. a ∷ take (suc i) (slice_set acts i (record (slice_index_or acts i d) { begun = false }))) head ∙ ap (λ rest. (record m { begun = false }) ∷ rest) (cleared_take acts i d (omega arith) tail)

pub clear_step : (acts initial : List ActState) (i later : ℕ) (d : ActState) → later ≡ suc i → i < length acts → cleared acts ≡ cleared initial → take i acts ≡ take i (cleared initial)
    → take later (slice_set acts i (record (slice_index_or acts i d) { begun = false })) ≡ take later (cleared initial)
clear_step acts initial i later d e l same before =
    let before' : take i acts ≡ take i (cleared acts) = before ∙ ap (take i) (sym same) in
    rw e (cleared_take acts i d l before' ∙ ap (take (suc i)) same)

cleared_count : (acts : List ActState) → length (cleared acts) ≡ length acts
cleared_count [] = refl
cleared_count (m ∷ acts) = ap suc (cleared_count acts)

pub clear_done : (acts initial : List ActState) (i : ℕ) → length acts ≤ i → length initial ≤ i → take i acts ≡ take i (cleared initial) → acts ≡ cleared initial
clear_done acts initial i l m k =
    let c : length (cleared initial) ≡ length initial = cleared_count initial in
    sym (take_all i acts l) ∙ (k ∙ take_all i (cleared initial) (omega arith))
