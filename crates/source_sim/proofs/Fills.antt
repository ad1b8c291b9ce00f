-- Steps of the loops over all threads and all ports, over plain variables.
--
-- A loop that writes one item after the other has made so much of a list; the item at its index is that of the list.
use Rattle.std.proofs.Common.{◌≡◌, ℕ, ◌<◌, ◌≤◌, arith, refl, sym, ◌∙◌, ap, subst, List, [], ◌∷◌, length, map, take, drop, get_or, Bool, true, false, IsTrue, nat_le, zero, suc, Option, Some, None}
use Rattle.std.specs.Prelude.{slice_set, slice_index_or}
use Rattle.std.proofs.Math.Seq.{drop-cons}
use Rattle.std.proofs.lemmas.List.{take_all, drop_all}
use Rattle.std.specs.List.{list_all, slice_get}
use Rattle.anvil_bits.specs.Number.{Number}
use Rattle.core_term.specs.declared.process.CorePort.{CorePort}
use Rattle.core_term.specs.declared.process.CoreReg.{CoreReg}
use Rattle.core_term.specs.declared.rows.InCell.{InCell}
use Rattle.core_term.specs.declared.rows.OutCell.{OutCell}
use Rattle.core_term.specs.declared.term.CoreTerm.{CoreTerm}
use Rattle.core_term.specs.Process.{LifeEnd}
use Rattle.core_term.specs.ProcessView.{port_of, process_of}
use Rattle.core_term.specs.Rows.{number_of}
use Rattle.core_term.specs.Names.{is_good_name}
use Rattle.core_term.specs.Sized.{port_fits, process_fits, is_sized}
use Rattle.std.proofs.lemmas.Bool.Decides.{nat_tests}
use Rattle.run_laws.proofs.source_runs.Offers.{and_first, and_second}
use Rattle.exchanges.specs.declared.latest.Latest.{Latest}
use Rattle.exchanges.specs.Next.{next}
use Rattle.sim_laws.specs.declared.drive.Drive.{Drive}
use Rattle.sim_laws.proofs.Counts.{map_count}
use Rattle.sim_laws.specs.Kept.{Kept, IsReady, AllReady, stepped, all_stepped}
use Rattle.sim_laws.specs.Passes.{drive_all, write_all}
use Rattle.sim_laws.specs.Stands.{drive_threads, write_threads, no_drives, meets, all_meet, shown_cell, shown_cells, next_latests}

module _ {X : Type 0} where
  first_of : X → List X → X
  first_of d [] = d
  first_of d (x ∷ rest) = x

  rest_of : List X → List X
  rest_of [] = []
  rest_of (x ∷ rest) = rest

  filled : (out target : List X) (i : ℕ) (v : X) → i < length out → i < length target → take i out ≡ take i target → get_or target i v ≡ v → take (suc i) (slice_set out i v) ≡ take (suc i) target
  unfolding first_of rest_of
  filled [] target i v l m k e = absurd (omega arith)
  filled (x ∷ out) [] i v l m k e = absurd (omega arith)
  filled (x ∷ out) (y ∷ target) zero v l m k e = ap (λ z. z ∷ []) (sym e)
  filled (x ∷ out) (y ∷ target) (suc i) v l m k e =
      let head : x ≡ y = ap (first_of x) k in
      let tail : take i out ≡ take i target = ap rest_of k in
      ap (λ z. z ∷ take (suc i) (slice_set out i v)) head ∙ ap (λ rest. y ∷ rest) (filled out target i v (omega arith) (omega arith) tail e)

  pub fill_step : (out target : List X) (i later : ℕ) (v : X) → later ≡ suc i → i < length out → length out ≡ length target → take i out ≡ take i target → get_or target i v ≡ v → take later (slice_set out i v) ≡ take later target
  fill_step out target i later v e l same k here = rw e (filled out target i v l (omega arith) k here)

  pub fill_done : (out target : List X) (i : ℕ) → length out ≤ i → length out ≡ length target → take i out ≡ take i target → out ≡ target
  fill_done out target i l same k = sym (take_all i out l) ∙ (k ∙ take_all i target (omega arith))

  pub next_drop : (xs : List X) (i later : ℕ) (x : X) → later ≡ suc i → i < length xs → x ≡ get_or xs i x → drop i xs ≡ x ∷ drop later xs
  next_drop xs i later x e l k = drop-cons xs i x l ∙ (ap (λ a. a ∷ drop (suc i) xs) (sym k) ∙ ap (λ n. x ∷ drop n xs) (sym e))

-- Drives and registers of all threads.

pub drive_next : (threads : List Kept) (i later : ℕ) (kept : Kept) (drives drives' target : List Drive) → later ≡ suc i → i < length threads → kept ≡ get_or threads i kept → drive_threads (map (λ k. k.acts) (drop i threads)) drives ≡ target
    → drives' ≡ drive_all kept.acts drives → drive_threads (map (λ k. k.acts) (drop later threads)) drives' ≡ target
drive_next threads i later kept drives drives' target e l k before step = rw step (sym (ap (λ rest. drive_threads (map (λ k. k.acts) rest) drives) (next_drop threads i later kept e l k)) ∙ before)

pub drive_done : (threads : List Kept) (i : ℕ) (drives target : List Drive) → length threads ≤ i → drive_threads (map (λ k. k.acts) (drop i threads)) drives ≡ target → drives ≡ target
drive_done threads i drives target l k = sym (ap (λ rest. drive_threads (map (λ k. k.acts) rest) drives) (drop_all i threads l)) ∙ k

pub write_next : (threads : List Kept) (i later : ℕ) (kept : Kept) (nexts nexts' target : List Number) → later ≡ suc i → i < length threads → kept ≡ get_or threads i kept → write_threads (map (λ k. k.acts) (drop i threads)) nexts ≡ target
    → nexts' ≡ write_all kept.acts nexts → write_threads (map (λ k. k.acts) (drop later threads)) nexts' ≡ target
write_next threads i later kept nexts nexts' target e l k before step = rw step (sym (ap (λ rest. write_threads (map (λ k. k.acts) rest) nexts) (next_drop threads i later kept e l k)) ∙ before)

pub write_done : (threads : List Kept) (i : ℕ) (nexts target : List Number) → length threads ≤ i → write_threads (map (λ k. k.acts) (drop i threads)) nexts ≡ target → nexts ≡ target
write_done threads i nexts target l k = sym (ap (λ rest. write_threads (map (λ k. k.acts) rest) nexts) (drop_all i threads l)) ∙ k

-- The lists that the loops over the ports make.

pub no_drive_at : (ports : List CorePort) (i : ℕ) (port : CorePort) (d : Drive) → i < length ports → port ≡ get_or ports i port → get_or (no_drives (map port_of ports)) i d ≡ record { offered = false; number = number_of port.width 0 }
no_drive_at [] i port d l e = absurd (omega arith)
no_drive_at (p ∷ ports) zero port d l e = ap (λ (q : CorePort). let r : Drive = record { offered = false; number = number_of q.width 0 } in r) (sym e)
no_drive_at (p ∷ ports) (suc i) port d l e = no_drive_at ports i port d (omega arith) e

pub port_at : (ports : List CorePort) (i : ℕ) (port : CorePort) → i < length ports → port ≡ get_or ports i port → IsTrue (list_all port_fits (map port_of ports)) → IsTrue (port_fits (port_of port))
port_at [] i port l e k = absurd (omega arith)
port_at (p ∷ ports) zero port l e k = subst (λ q. IsTrue (port_fits (port_of q))) (sym e) (and_first _ _ k)
port_at (p ∷ ports) (suc i) port l e k = port_at ports i port (omega arith) e (and_second (port_fits (port_of p)) _ k)

pub met_at : (cells : List InCell) (drives : List Drive) (i : ℕ) (cell : InCell) (drive : Drive) (d : Bool) → length drives ≡ length cells → i < length cells → cell ≡ get_or cells i cell → drive ≡ get_or drives i drive → get_or (all_meet cells drives) i d ≡ meets cell drive
met_at [] drives i cell drive d e l c k = absurd (omega arith)
met_at (x ∷ cells) [] i cell drive d e l c k = absurd (omega arith)
met_at (x ∷ cells) (y ∷ drives) zero cell drive d e l c k = rw (sym c, sym k) refl
met_at (x ∷ cells) (y ∷ drives) (suc i) cell drive d e l c k = met_at cells drives i cell drive d (omega arith) (omega arith) c k

pub shown_at : (ports : List CorePort) (drives : List Drive) (latests : List Latest) (i : ℕ) (port : CorePort) (drive : Drive) (latest : Latest) (d : OutCell) → length drives ≡ length ports → length latests ≡ length ports → i < length ports
    → port ≡ get_or ports i port → drive ≡ get_or drives i drive → latest ≡ get_or latests i latest → get_or (shown_cells (map port_of ports) drives latests) i d ≡ shown_cell (port_of port) drive latest
shown_at [] drives latests i port drive latest d a b l e f g = absurd (omega arith)
shown_at (p ∷ ports) [] latests i port drive latest d a b l e f g = absurd (omega arith)
shown_at (p ∷ ports) (y ∷ drives) [] i port drive latest d a b l e f g = absurd (omega arith)
shown_at (p ∷ ports) (y ∷ drives) (z ∷ latests) zero port drive latest d a b l e f g = rw (sym e, sym f, sym g) refl
shown_at (p ∷ ports) (y ∷ drives) (z ∷ latests) (suc i) port drive latest d a b l e f g = shown_at ports drives latests i port drive latest d (omega arith) (omega arith) (omega arith) e f g

pub nexts_count : (exchanged rest : List Bool) (lives : List (List LifeEnd)) (drives : List Drive) (latests : List Latest) → length rest ≡ length lives → length drives ≡ length lives → length latests ≡ length lives
    → length (next_latests exchanged rest lives drives latests) ≡ length lives
nexts_count exchanged [] [] drives latests a b c = refl
nexts_count exchanged [] (life ∷ lives) drives latests a b c = absurd (omega arith)
nexts_count exchanged (x ∷ rest) [] drives latests a b c = absurd (omega arith)
nexts_count exchanged (x ∷ rest) (life ∷ lives) [] latests a b c = absurd (omega arith)
nexts_count exchanged (x ∷ rest) (life ∷ lives) (y ∷ drives) [] a b c = absurd (omega arith)
nexts_count exchanged (x ∷ rest) (life ∷ lives) (y ∷ drives) (z ∷ latests) a b c = ap suc (nexts_count exchanged rest lives drives latests (omega arith) (omega arith) (omega arith))

pub nexts_at : (exchanged rest : List Bool) (lives : List (List LifeEnd)) (drives : List Drive) (latests : List Latest) (i : ℕ) (life : List LifeEnd) (drive : Drive) (latest default : Latest)
    → length rest ≡ length lives → length drives ≡ length lives → length latests ≡ length lives → i < length lives → slice_get lives i ≡ Some life → drive ≡ get_or drives i drive → latest ≡ get_or latests i latest
    → get_or (next_latests exchanged rest lives drives latests) i default ≡ next exchanged life (slice_index_or rest i false) drive.number latest
nexts_at exchanged [] lives drives latests i life drive latest default a b c l h f k = absurd (omega arith)
nexts_at exchanged (x ∷ rest) [] drives latests i life drive latest default a b c l h f k = absurd (omega arith)
nexts_at exchanged (x ∷ rest) (e ∷ lives) [] latests i life drive latest default a b c l h f k = absurd (omega arith)
nexts_at exchanged (x ∷ rest) (e ∷ lives) (y ∷ drives) [] i life drive latest default a b c l h f k = absurd (omega arith)
nexts_at exchanged (x ∷ rest) (e ∷ lives) (y ∷ drives) (z ∷ latests) zero life drive latest default a b c l h f k = let same : e ≡ life = cc in rw (sym f, sym k, same) refl
nexts_at exchanged (x ∷ rest) (e ∷ lives) (y ∷ drives) (z ∷ latests) (suc i) life drive latest default a b c l h f k =
    nexts_at exchanged rest lives drives latests i life drive latest default (omega arith) (omega arith) (omega arith) (omega arith) h f k

-- what is found in a list
pub get_within : {X : Type 0} (xs : List X) (i : ℕ) (x : X) → slice_get xs i ≡ Some x → i < length xs
get_within [] i x found = absurd cc
get_within (first ∷ xs) zero x found = omega arith
get_within (first ∷ xs) (suc i) x found = let rest = get_within xs i x found in omega arith

pub same_found : {X : Type 0} {one other : X} → Some one ≡ Some other → one ≡ other
same_found {one = one} e = ap (λ (found : Option _). elim found [ None ↦ one | Some x ↦ x ]) e

-- All threads.

module _ (ports : List CorePort) (regs : List CoreReg) (count : ℕ) where
  pub ready_count : (bodies : List CoreTerm) (threads : List Kept) → AllReady ports regs count bodies threads → length threads ≡ length bodies
  ready_count [] [] k = refl
  ready_count [] (kept ∷ rest) k = absurd (omega arith)
  ready_count (body ∷ bodies) [] k = absurd (omega arith)
  ready_count (body ∷ bodies) (kept ∷ rest) k = ap suc (ready_count bodies rest k.1)

  pub ready_at : (bodies : List CoreTerm) (threads : List Kept) (i : ℕ) (body : CoreTerm) (kept : Kept) → AllReady ports regs count bodies threads → i < length threads → body ≡ get_or bodies i body → kept ≡ get_or threads i kept → IsReady ports regs count body kept
  ready_at [] [] i body kept k l e f = absurd (omega arith)
  ready_at [] (x ∷ rest) i body kept k l e f = absurd (omega arith)
  ready_at (b ∷ bodies) [] i body kept k l e f = absurd (omega arith)
  ready_at (b ∷ bodies) (x ∷ rest) zero body kept k l e f = subst (λ z. IsReady ports regs count z kept) (sym e) (subst (λ z. IsReady ports regs count b z) (sym f) k.0)
  ready_at (b ∷ bodies) (x ∷ rest) (suc i) body kept k l e f = ready_at bodies rest i body kept k.1 (omega arith) e f

  pub ready_set : (bodies : List CoreTerm) (threads : List Kept) (i : ℕ) (body : CoreTerm) (kept : Kept) → AllReady ports regs count bodies threads → i < length threads → body ≡ get_or bodies i body → IsReady ports regs count body kept → AllReady ports regs count bodies (slice_set threads i kept)
  ready_set [] [] i body kept k l e f = absurd (omega arith)
  ready_set [] (x ∷ rest) i body kept k l e f = absurd (omega arith)
  ready_set (b ∷ bodies) [] i body kept k l e f = absurd (omega arith)
  ready_set (b ∷ bodies) (x ∷ rest) zero body kept k l e f = (subst (λ z. IsReady ports regs count z kept) e f, k.1)
  ready_set (b ∷ bodies) (x ∷ rest) (suc i) body kept k l e f = (k.0, ready_set bodies rest i body kept k.1 (omega arith) e f)

pub stepped_count : (ports : List CorePort) (regs : List CoreReg) (cells : List InCell) (numbers : List Number) (begun : Bool) (bodies : List CoreTerm) (threads : List Kept) → length threads ≡ length bodies → length (all_stepped ports regs cells numbers begun bodies threads) ≡ length threads
stepped_count ports regs cells numbers begun [] [] e = refl
stepped_count ports regs cells numbers begun [] (x ∷ rest) e = absurd (omega arith)
stepped_count ports regs cells numbers begun (b ∷ bodies) [] e = absurd (omega arith)
stepped_count ports regs cells numbers begun (b ∷ bodies) (x ∷ rest) e = ap suc (stepped_count ports regs cells numbers begun bodies rest (omega arith))

pub stepped_at : (ports : List CorePort) (regs : List CoreReg) (cells : List InCell) (numbers : List Number) (begun : Bool) (bodies : List CoreTerm) (threads : List Kept) (i : ℕ) (body : CoreTerm) (kept d : Kept) → length threads ≡ length bodies → i < length threads
    → body ≡ get_or bodies i body → kept ≡ get_or threads i kept → get_or (all_stepped ports regs cells numbers begun bodies threads) i d ≡ stepped ports regs cells numbers body begun kept
stepped_at ports regs cells numbers begun [] threads i body kept d e l f g = absurd (omega arith)
stepped_at ports regs cells numbers begun (b ∷ bodies) [] i body kept d e l f g = absurd (omega arith)
stepped_at ports regs cells numbers begun (b ∷ bodies) (x ∷ rest) zero body kept d e l f g = rw (sym f, sym g) refl
stepped_at ports regs cells numbers begun (b ∷ bodies) (x ∷ rest) (suc i) body kept d e l f g = stepped_at ports regs cells numbers begun bodies rest i body kept d (omega arith) (omega arith) f g

-- an item that is still as it was
pub still_at : {X : Type 0} (xs initial : List X) (i : ℕ) (x : X) → i < length xs → length xs ≡ length initial → drop i xs ≡ drop i initial → x ≡ get_or xs i x → x ≡ get_or initial i x
still_at xs initial i x l same k e =
    let a : get_or (drop i xs) 0 x ≡ get_or xs i x = ap (λ ys. get_or ys 0 x) (drop-cons xs i x l) in
    let b : get_or (drop i initial) 0 x ≡ get_or initial i x = ap (λ ys. get_or ys 0 x) (drop-cons initial i x (omega arith)) in
    e ∙ (sym a ∙ (ap (λ ys. get_or ys 0 x) k ∙ b))

drop_set : {X : Type 0} (xs : List X) (i : ℕ) (v : X) → drop (suc i) (slice_set xs i v) ≡ drop (suc i) xs
drop_set [] i v = refl
drop_set (x ∷ xs) zero v = refl
drop_set (x ∷ xs) (suc i) v = drop_set xs i v

drop_rest : {X : Type 0} (xs ys : List X) (i : ℕ) (d : X) → i < length xs → i < length ys → drop i xs ≡ drop i ys → drop (suc i) xs ≡ drop (suc i) ys
drop_rest xs ys i d l m k = ap (λ zs. drop 1 zs) (sym (drop-cons xs i d l) ∙ (k ∙ drop-cons ys i d m))

pub rest_step : {X : Type 0} (xs initial : List X) (i later : ℕ) (v : X) → later ≡ suc i → i < length xs → length xs ≡ length initial → drop i xs ≡ drop i initial → drop later (slice_set xs i v) ≡ drop later initial
rest_step xs initial i later v e l same k = rw e (drop_set xs i v ∙ drop_rest xs initial i v l (omega arith) k)

-- the widths of the ports of a core process are widths of numbers
pub port_wide : (ports : List CorePort) (i : ℕ) (port : CorePort) → i < length ports → port ≡ get_or ports i port → IsTrue (list_all port_fits (map port_of ports)) → (1 ≤ (get_or ports i port).width) × ((get_or ports i port).width ≤ 64)
port_wide ports i port l e k =
    let fits = and_first _ _ (port_at ports i port l e k) in
    let low : nat_le 1 port.width ≡ true = and_first (nat_le 1 port.width) _ fits in
    let high : nat_le port.width 64 ≡ true = and_second (nat_le 1 port.width) _ fits in
    subst (λ q. (1 ≤ q.width) × (q.width ≤ 64)) e (grind (arith, nat_tests), grind (arith, nat_tests))

pub ports_few : (name : List ℕ) (ports : List CorePort) (regs : List CoreReg) (threads : List CoreTerm) → IsTrue (is_sized name ports regs threads) → (length ports ≤ 64) × IsTrue (list_all port_fits (map port_of ports))
ports_few name ports regs threads k =
    let fits = and_first (process_fits (process_of name ports regs threads)) _ k in
    let rest = and_second (is_good_name name) _ fits in
    let few : nat_le (length (map port_of ports)) 64 ≡ true = and_first _ _ rest in
    let more = and_second (nat_le (length (map port_of ports)) 64) _ rest in
    let count : length (map port_of ports) ≡ length ports = map_count port_of ports in
    let l : length (map port_of ports) ≤ 64 = grind (arith, nat_tests) in
    (omega arith, and_first (list_all port_fits (map port_of ports)) _ more)

-- one thread of all
module _ (ports ports' : List CorePort) (regs regs' : List CoreReg) (numbers : List Number) (bodies : List CoreTerm) (body : CoreTerm) (body0 : CoreTerm) (same_ports : ports' ≡ ports) (same_regs : regs' ≡ regs) (same_body : body ≡ body0) where
  pub ready_here : (threads : List Kept) (i : ℕ) (kept : Kept) → AllReady ports regs (length numbers) bodies threads → i < length threads → body0 ≡ get_or bodies i body0 → kept ≡ get_or threads i kept → IsReady ports' regs' (length numbers) body (get_or threads i kept)
  ready_here threads i kept k l e f =
      rw (same_ports, same_regs, same_body) (subst (λ z. IsReady ports regs (length numbers) body0 z) f (ready_at ports regs (length numbers) bodies threads i body0 kept k l e f))

  pub set_here : (threads : List Kept) (i : ℕ) (v : Kept) → AllReady ports regs (length numbers) bodies threads → i < length threads → body0 ≡ get_or bodies i body0 → IsReady ports' regs' (length numbers) body v → AllReady ports regs (length numbers) bodies (slice_set threads i v)
  set_here threads i v k l e r =
      ready_set ports regs (length numbers) bodies threads i body0 v k l e (rw (same_ports, same_regs, same_body) at r)

  pub step_here : (cells : List InCell) (begun : Bool) (threads initial : List Kept) (i : ℕ) (kept v : Kept) → length initial ≡ length bodies → length threads ≡ length initial → i < length threads → drop i threads ≡ drop i initial
      → body0 ≡ get_or bodies i body0 → kept ≡ get_or threads i kept → v ≡ stepped ports' regs' cells numbers body begun (get_or threads i kept)
      → get_or (all_stepped ports regs cells numbers begun bodies initial) i v ≡ v
  step_here cells begun threads initial i kept v long same l rest e f s =
      let still = still_at threads initial i kept l same rest f in
      let z = stepped_at ports regs cells numbers begun bodies initial i body0 kept v long (omega arith) e still in
      let s' : v ≡ stepped ports regs cells numbers body0 begun (get_or threads i kept) = rw (same_ports, same_regs, same_body) at s in
      z ∙ (ap (λ k. stepped ports regs cells numbers body0 begun k) f ∙ sym s')
