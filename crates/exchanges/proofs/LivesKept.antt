-- The lives of the ports of a process, copied port by port and end by end.
use Rattle.std.proofs.lemmas.Bool.Decides.{nat_tests}
use Rattle.std.proofs.Common.{nat_le, true, ◌≡◌, ℕ, ◌<◌, ◌≤◌, refl, sym, ◌∙◌, ap, List, [], ◌∷◌, ◌++◌, length, map, take, zero, suc, arith, Some, IsTrue}
use Rattle.std.specs.List.{slice_get}
use Rattle.std.proofs.lemmas.List.{take_all}
use Rattle.core_term.specs.declared.process.CorePort.{CorePort}
use Rattle.core_term.specs.declared.process.CoreReg.{CoreReg}
use Rattle.core_term.specs.declared.term.CoreTerm.{CoreTerm}
use Rattle.core_term.specs.Process.{LifeEnd, Port, nth_port}
use Rattle.core_term.specs.ProcessView.{port_of, process_of}
use Rattle.core_term.specs.Names.{is_good_name}
use Rattle.core_term.specs.Sized.{is_sized, process_fits}
use Rattle.run_laws.proofs.source_runs.Offers.{and_first, and_second}
use Rattle.exchanges.specs.Lives.{lives_of}

-- one item more of a list that is copied
pub take-more : {Item : Type 0} (items : List Item) (index later : ℕ) (item : Item) → later ≡ suc index → slice_get items index ≡ Some item → take later items ≡ take index items ++ item ∷ []
take-more {Item = Item} items index later item next is = rw next (one_more items index is)
  where
    one_more : (items : List Item) (index : ℕ) → slice_get items index ≡ Some item → take (suc index) items ≡ take index items ++ item ∷ []
    one_more [] index is = absurd cc
    one_more (first ∷ items) zero is = let same : first ≡ item = cc in ap (λ i. i ∷ []) same
    one_more (first ∷ items) (suc index) is = ap (λ rest. first ∷ rest) (one_more items index is)

-- a list of copies, one item on
pub copies_more : {Item Copy : Type 0} (copy : Item → Copy) (items later_items : List Item) (item : Item) (copies : List Copy) (index later : ℕ) → later ≡ suc index → map copy items ≡ take index copies
    → slice_get copies index ≡ Some (copy item) → later_items ≡ items ++ item ∷ [] → map copy later_items ≡ take later copies
copies_more {Item = Item} {Copy = Copy} copy items later_items item copies index later next before here pushed =
    rw pushed (map_push items ∙ (ap (λ front. front ++ copy item ∷ []) before ∙ sym (take-more copies index later (copy item) next here)))
  where
    map_push : (some : List Item) → map copy (some ++ item ∷ []) ≡ map copy some ++ copy item ∷ []
    map_push [] = refl
    map_push (first ∷ some) = ap (λ rest. copy first ∷ rest) (map_push some)

pub life_at : (ports : List CorePort) (index : ℕ) → index < length ports → slice_get (lives_of (map port_of ports)) index ≡ Some (nth_port (map port_of ports) index).life
life_at [] index within = absurd (omega arith)
life_at (port ∷ ports) zero within = refl
life_at (port ∷ ports) (suc index) within = life_at ports index (omega arith)

pub lives_count : (ports : List CorePort) → length (lives_of (map port_of ports)) ≡ length ports
lives_count [] = refl
lives_count (port ∷ ports) = ap suc (lives_count ports)

-- a process has at most 64 ports
pub ports_few : (name : List ℕ) (ports : List CorePort) (regs : List CoreReg) (bodies : List CoreTerm) → IsTrue (is_sized name ports regs bodies) → length ports ≤ 64
ports_few name ports regs bodies sized =
    let fits = and_second (is_good_name name) _ (and_first (process_fits (process_of name ports regs bodies)) _ sized) in
    let few : nat_le (length (map port_of ports)) 64 ≡ true = and_first _ _ fits in
    let count : length (map port_of ports) ≡ length ports = map_count ports in
    let at_most : length (map port_of ports) ≤ 64 = grind (arith, nat_tests) in
    omega arith
  where
    map_count : (ports : List CorePort) → length (map port_of ports) ≡ length ports
    map_count [] = refl
    map_count (port ∷ ports) = ap suc (map_count ports)
