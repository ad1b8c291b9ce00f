-- A port that is read by its number: the plain list of ports has at each number the port of the code's list, and a test of
-- all items is met by each item.
use Rattle.std.proofs.Common.{◌≡◌, ℕ, ◌+◌, ◌<◌, ◌⊎◌, inl, inr, arith, refl, subst, List, [], ◌∷◌, ◌++◌, Bool, true, false, ◌&&◌, IsTrue, length, map, zero, suc, Some}
use Rattle.std.proofs.Math.ListN.{get_or, take}
use Rattle.std.proofs.lemmas.List.{take_more}
use Rattle.core_term.specs.Lists.{Has}
use Rattle.std.specs.List.{list_all, slice_get}
use Rattle.core_term.specs.declared.term.CoreTerm.{CoreTerm}
use Rattle.core_term.specs.declared.process.CorePort.{CorePort}
use Rattle.core_term.specs.declared.process.CoreReg.{CoreReg}
use Rattle.core_term.specs.Process.{nth_port}
use Rattle.core_term.specs.ProcessView.{port_of, end_of_life}
use Rattle.core_term.specs.Sized.{is_sized, port_fits, register_fits}

pub nth_port_at : (ports : List CorePort) (m : ℕ) (d : CorePort) → m < length ports → nth_port (map port_of ports) m ≡ port_of (get_or ports m d)
nth_port_at [] m d l = absurd (omega arith)
nth_port_at (port ∷ ports) zero d l = refl
nth_port_at (port ∷ ports) (suc m) d l = nth_port_at ports m d (omega arith)

-- until lives have several ends
pub one_end : (ports : List CorePort) (m : ℕ) → m < length ports → 1 ≡ length (nth_port (map port_of ports) m).life
one_end [] m l = absurd (omega arith)
one_end (port ∷ ports) zero l = refl
one_end (port ∷ ports) (suc m) l = one_end ports m (omega arith)

pub end_at : (ports : List CorePort) (m : ℕ) (d : CorePort) → m < length ports → slice_get (nth_port (map port_of ports) m).life 0 ≡ Some (end_of_life (get_or ports m d).life)
end_at [] m d l = absurd (omega arith)
end_at (port ∷ ports) zero d l = refl
end_at (port ∷ ports) (suc m) d l = end_at ports m d (omega arith)

pub first_part : (a b : Bool) → IsTrue (a && b) → IsTrue a
first_part true b k = refl
first_part false b k = k

pub second_part : (a b : Bool) → IsTrue (a && b) → IsTrue b
second_part true b k = k
second_part false b k = absurd cc

pub list_all_get : {X Y : Type 0} (test : Y → Bool) (view : X → Y) (items : List X) (i : ℕ) (d : X) → i < length items → IsTrue (list_all test (map view items)) → IsTrue (test (view (get_or items i d)))
list_all_get test view [] i d l k = absurd (omega arith)
list_all_get test view (x ∷ rest) zero d l k = first_part (test (view x)) (list_all test (map view rest)) k
list_all_get test view (x ∷ rest) (suc i) d l k = list_all_get test view rest i d (omega arith) (second_part (test (view x)) (list_all test (map view rest)) k)

-- what a sized process says of its ports and registers
module _ (name : List ℕ) (ports : List CorePort) (registers : List CoreReg) (threads : List CoreTerm) (sized : IsTrue (is_sized name ports registers threads)) where
  pub ports_fit : IsTrue (list_all port_fits (map port_of ports))
  ports_fit = first_part _ _ (second_part _ _ (second_part _ _ (first_part _ _ sized)))

  pub registers_fit : IsTrue (list_all register_fits registers)
  registers_fit = first_part _ _ (second_part _ _ (second_part _ _ sized))

last_of : {X : Type 0} (xs : List X) (x y : X) → Has (xs ++ (y ∷ [])) x → Has xs x ⊎ (x ≡ y)
last_of [] x y (inl e) = inr e
last_of [] x y (inr e) = elim e [ ]
last_of (z ∷ zs) x y (inl e) = inl (inl e)
last_of (z ∷ zs) x y (inr e) = elim (last_of zs x y e) [ inl k ↦ inl (inr k) | inr k ↦ inr k ]

-- the items up to and with the one of the number i
pub has_more : {X : Type 0} (items : List X) (i : ℕ) (d x : X) → i < length items → Has (take (i + 1) items) x → Has (take i items) x ⊎ (x ≡ get_or items i d)
has_more items i d x l k = last_of (take i items) x (get_or items i d) (subst (λ zs. Has zs x) (take_more items i d l) k)
