-- The nets valued so far: the value of one is read at its place, with the width of its net; and the values of one net more.
use Rattle.std.proofs.Common.{◌≡◌, ℕ, zero, suc, ◌+◌, ◌<◌, List, [], ◌∷◌, ◌++◌, length, map, get_or, take, refl, sym, ap, subst, arith, IsTrue}
use Rattle.std.specs.Prelude.{nat_lt, slice_index}
use Rattle.std.proofs.lemmas.Bool.{ltb-true}
use Rattle.std.proofs.lemmas.List.{get_or-take, take-map, take_more, map-append}
use Rattle.anvil_bits.specs.Number.{Number}
use Rattle.core_term.specs.Inputs.{Inputs}
use Rattle.core_term.specs.Rows.{number_of}
use Rattle.sv_tree.specs.declared.tree.SvNet.{SvNet}
use Rattle.sv_tree.specs.Module.{Module}
use Rattle.sv_tree.specs.Clocked.{net_values_after, operation_value}
use Rattle.sv_meaning.specs.Cycle.{values, widths}

value_at : (numbers : List Number) (k : ℕ) (d : Number) → k < length numbers → slice_index (values numbers) k ≡ (get_or numbers k d).value
value_at [] k d inside = absurd (omega (arith, inside))
value_at (number ∷ numbers) zero d inside = refl
value_at (number ∷ numbers) (suc k) d inside =
    let shorter : k < length numbers = omega (arith, inside) in
    value_at numbers k d shorter

width_at : (numbers : List Number) (k : ℕ) (d : Number) → k < length numbers → slice_index (widths numbers) k ≡ (get_or numbers k d).width
width_at [] k d inside = absurd (omega (arith, inside))
width_at (number ∷ numbers) zero d inside = refl
width_at (number ∷ numbers) (suc k) d inside =
    let shorter : k < length numbers = omega (arith, inside) in
    width_at numbers k d shorter

-- a number that was read at its place, where the widths at that place are known
pub number_read :
    (numbers : List Number) (k width : ℕ) (read : Number) → k < length numbers → read ≡ get_or numbers k read → slice_index (widths numbers) k ≡ width
    → read ≡ number_of width (slice_index (values numbers) k)
number_read numbers k width read inside is wide =
    let value : slice_index (values numbers) k ≡ read.value =
    subst (λ number. slice_index (values numbers) k ≡ number.value) (sym is) (value_at numbers k read inside) in
    let same : slice_index (widths numbers) k ≡ read.width =
    subst (λ number. slice_index (widths numbers) k ≡ number.width) (sym is) (width_at numbers k read inside) in
    let mine : read.width ≡ width = subst (λ bits. bits ≡ width) same wide in
    rw value (subst (λ bits. read ≡ number_of bits read.value) mine refl)

pub net_read :
    (nets : List SvNet) (numbers : List Number) (k : ℕ) (read : Number)
    → widths numbers ≡ map (λ net. net.width) (take (length numbers) nets) → IsTrue (nat_lt k (length numbers)) → read ≡ get_or numbers k read
    → read ≡ number_of (slice_index (map (λ net. net.width) nets) k) (slice_index (values numbers) k)
net_read nets numbers k read wide stands is =
    let inside : k < length numbers = ltb-true k (length numbers) stands in
    let taken : widths numbers ≡ take (length numbers) (map (λ net. net.width) nets) = rw wide (sym (take-map (λ net. net.width) (length numbers) nets)) in
    let width : slice_index (widths numbers) k ≡ slice_index (map (λ net. net.width) nets) k =
    subst (λ list. slice_index list k ≡ slice_index (map (λ net. net.width) nets) k) (sym taken) (get_or-take (length numbers) (map (λ net. net.width) nets) k 0 inside) in
    number_read numbers k _ read inside is width

-- one net more at the end
pub net_values_push :
    (tree : Module) (inputs : Inputs) (cycle : ℕ) (registers so_far : List ℕ) (nets : List SvNet) (net : SvNet)
    → net_values_after tree inputs cycle registers so_far (nets ++ net ∷ [])
    ≡ net_values_after tree inputs cycle registers so_far nets
    ++ operation_value tree inputs cycle registers (net_values_after tree inputs cycle registers so_far nets) net.width net.op ∷ []
net_values_push tree inputs cycle registers so_far [] net = refl
net_values_push tree inputs cycle registers so_far (first ∷ rest) net =
    net_values_push tree inputs cycle registers (so_far ++ operation_value tree inputs cycle registers so_far first.width first.op ∷ []) rest net

pub net_pushed :
    (tree : Module) (inputs : Inputs) (cycle : ℕ) (registers : List ℕ) (nets : List SvNet) (k : ℕ) (net : SvNet) (before after : List Number) (number : Number)
    → k < length nets → net ≡ get_or nets k net → after ≡ before ++ number ∷ []
    → values before ≡ net_values_after tree inputs cycle registers [] (take k nets)
    → widths before ≡ map (λ net. net.width) (take k nets)
    → number ≡ number_of net.width (operation_value tree inputs cycle registers (values before) net.width net.op)
    → (values after ≡ net_values_after tree inputs cycle registers [] (take (k + 1) nets)) × (widths after ≡ map (λ net. net.width) (take (k + 1) nets))
net_pushed tree inputs cycle registers nets k net before after number inside there pushed valued wide is =
    let more : take (k + 1) nets ≡ take k nets ++ net ∷ [] =
    subst (λ last. take (k + 1) nets ≡ take k nets ++ last ∷ []) (sym there) (take_more nets k net inside) in
    let values_more : values (before ++ number ∷ []) ≡ values before ++ number.value ∷ [] = map-append (λ number. number.value) before (number ∷ []) in
    let widths_more : widths (before ++ number ∷ []) ≡ widths before ++ number.width ∷ [] = map-append (λ net. net.width) before (number ∷ []) in
    let nets_more : map (λ net. net.width) (take k nets ++ net ∷ []) ≡ map (λ net. net.width) (take k nets) ++ net.width ∷ [] =
    map-append (λ net. net.width) (take k nets) (net ∷ []) in
    let value : number.value ≡ operation_value tree inputs cycle registers (values before) net.width net.op = ap (λ number. number.value) is in
    let width : number.width ≡ net.width = ap (λ net. net.width) is in
    let push = net_values_push tree inputs cycle registers [] (take k nets) net in (
      rw pushed (rw values_more (rw value (rw more (rw push (rw valued refl))))),
      rw pushed (rw widths_more (rw width (rw more (rw nets_more (rw wide refl))))),
    )
