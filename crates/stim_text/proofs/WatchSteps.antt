-- One cycle of a watch: where it stands after rows and no promise is broken, it stands after those with one more; and where one is
-- broken, the port that it names is the first.
use Rattle.std.proofs.Common.{◌≡◌, ℕ, ◌+◌, ◌<◌, ◌≤◌, Bool, true, false, if◌then◌else◌, ◌&&◌, List, [], ◌∷◌, ◌++◌, length, map, nat_lt, zero, suc, refl, ap, sym, subst, ◌∙◌, arith, Option, Some, None}
use Rattle.std.proofs.lemmas.Bool.Decides.{nat_tests}
use Rattle.std.specs.Prelude.{◌||◌, slice_index_or, MatchOption}
use Rattle.std.specs.List.{slice_get}
use Rattle.anvil_bits.specs.Number.{Number}
use Rattle.core_term.specs.declared.rows.InCell.{InCell}
use Rattle.core_term.specs.declared.rows.OutCell.{OutCell}
use Rattle.core_term.specs.declared.rows.OutRow.{OutRow}
use Rattle.core_term.specs.declared.rows.Row.{Row}
use Rattle.core_term.specs.Breach.{PromisesKept, IsFirstBreach}
use Rattle.core_term.specs.LogText.{exchanged, is_shown}
use Rattle.core_term.specs.Process.{LifeEnd, Port, Process, nth_port, life_of, is_received}
use Rattle.core_term.specs.Rows.{nth_cell, data_in, cells_fit}
use Rattle.core_term.specs.Wires.{Wires}
use Rattle.exchanges.specs.declared.latest.Latest.{Latest}
use Rattle.exchanges.specs.Broken.{no_latest, IsFirstBroken, NoneBroken}
use Rattle.exchanges.specs.Lives.{lives_of}
use Rattle.exchanges.specs.Next.{Bounded, next, IsLatest}
use Rattle.exchanges.specs.Watch.{Watches}
use Rattle.exchanges.proofs.GoesOn.{goes_on}
use Rattle.exchanges.proofs.Promises.{shown_told}
use Rattle.exchanges.proofs.Watched.{watched}
use Rattle.stim_text.specs.declared.seen.Seen.TheVariants.{Kept, Broken}
use Rattle.stim_text.specs.Answered.{answered}
use Rattle.stim_text.specs.LogLine.{PortWires, wires_at}
use Rattle.stim_text.specs.Passing.{meets, all_meet, shows, all_show, all_next}
use Rattle.stim_text.specs.Seen.{data_by, ShowsRows}
use Rattle.stim_text.specs.Watching.{Watching, shown_at, out_cells_fit, StandsAt, StandsAfter}
use Rattle.stim_text.proofs.RowsSeen.{wires_nth, port_seen, one_more, within, shows_before, now}

-- The lists that a cycle makes, at a port.

meets_nth : (cells : List InCell) (outs : List OutCell) (m : ℕ) → slice_index_or (all_meet cells outs) m false ≡ ((wires_nth cells outs m).valid && (wires_nth cells outs m).ack)
meets_nth [] outs m = refl
meets_nth (cell ∷ cells) [] m = refl
meets_nth (cell ∷ cells) (out ∷ outs) zero = refl
meets_nth (cell ∷ cells) (out ∷ outs) (suc m) = meets_nth cells outs m

shows_nth : (cells : List InCell) (outs : List OutCell) (latests : List Latest) (m : ℕ) → m < length cells → m < length outs → m < length latests
    → slice_index_or (all_show cells outs latests) m false ≡ ((wires_nth cells outs m).valid || (slice_index_or latests m no_latest).lives)
shows_nth [] outs latests m a b c = absurd (omega arith)
shows_nth (cell ∷ cells) [] latests m a b c = absurd (omega arith)
shows_nth (cell ∷ cells) (out ∷ outs) [] m a b c = absurd (omega arith)
shows_nth (cell ∷ cells) (out ∷ outs) (latest ∷ latests) zero a b c = refl
shows_nth (cell ∷ cells) (out ∷ outs) (latest ∷ latests) (suc m) a b c = shows_nth cells outs latests m (omega arith) (omega arith) (omega arith)

next_nth : (all rest : List Bool) (lives : List (List LifeEnd)) (cells : List InCell) (outs : List OutCell) (latests : List Latest) (m : ℕ) (life : List LifeEnd)
    → slice_get lives m ≡ Some life → m < length rest → m < length cells → m < length outs → m < length latests
    → slice_index_or (all_next all rest lives cells outs latests) m no_latest ≡ next all life (slice_index_or rest m false) (wires_nth cells outs m).number (slice_index_or latests m no_latest)
next_nth all [] lives cells outs latests m life there a b c d = absurd (omega arith)
next_nth all (now ∷ rest) [] cells outs latests m life there a b c d = absurd cc
next_nth all (now ∷ rest) (first ∷ lives) [] outs latests m life there a b c d = absurd (omega arith)
next_nth all (now ∷ rest) (first ∷ lives) (cell ∷ cells) [] latests m life there a b c d = absurd (omega arith)
next_nth all (now ∷ rest) (first ∷ lives) (cell ∷ cells) (out ∷ outs) [] m life there a b c d = absurd (omega arith)
next_nth all (now ∷ rest) (first ∷ lives) (cell ∷ cells) (out ∷ outs) (latest ∷ latests) zero life there a b c d = let same : first ≡ life = cc in rw same refl
next_nth all (now ∷ rest) (first ∷ lives) (cell ∷ cells) (out ∷ outs) (latest ∷ latests) (suc m) life there a b c d =
    next_nth all rest lives cells outs latests m life there (omega arith) (omega arith) (omega arith) (omega arith)

life_nth : (ports : List Port) (m : ℕ) → m < length ports → slice_get (lives_of ports) m ≡ Some (nth_port ports m).life
life_nth [] m less = absurd (omega arith)
life_nth (port ∷ ports) zero less = refl
life_nth (port ∷ ports) (suc m) less = life_nth ports m (omega arith)

meet_count : (cells : List InCell) (outs : List OutCell) → length outs ≡ length cells → length (all_meet cells outs) ≡ length cells
meet_count [] outs same = refl
meet_count (cell ∷ cells) [] same = absurd (omega arith)
meet_count (cell ∷ cells) (out ∷ outs) same = ap suc (meet_count cells outs (omega arith))

cells_count : (ports : List Port) (cells : List InCell) → cells_fit ports cells ≡ true → length cells ≡ length ports
cells_count [] [] fits = refl
cells_count [] (cell ∷ cells) fits = absurd cc
cells_count (port ∷ ports) [] fits = absurd cc
cells_count (port ∷ ports) (cell ∷ cells) fits = ap suc (cells_count ports cells (and_second _ _ fits))
  where
    and_second : (a b : Bool) → (a && b) ≡ true → b ≡ true
    and_second true b is = is
    and_second false b is = absurd cc

outs_count : (ports : List Port) (outs : List OutCell) → out_cells_fit ports outs ≡ true → length outs ≡ length ports
outs_count [] [] fits = refl
outs_count [] (out ∷ outs) fits = absurd cc
outs_count (port ∷ ports) [] fits = absurd cc
outs_count (port ∷ ports) (out ∷ outs) fits = ap suc (outs_count ports outs (and_second _ _ fits))
  where
    and_second : (a b : Bool) → (a && b) ≡ true → b ≡ true
    and_second true b is = is
    and_second false b is = absurd cc

-- what a watch had before a cycle, and what it has made of it
pub record Taken (p : Process) (rows : List Row) (outs : List OutRow) (row : Row) (out : OutRow) (watch later : Watching) : Type 0 where
  pub fits : cells_fit p.ports row.cells.items ≡ true
  pub out_fits : out_cells_fit p.ports out.cells.items ≡ true
  pub stands : StandsAfter p rows outs watch
  pub latest_count : length watch.latests ≡ length watch.lives
  pub bounded : (m : ℕ) (life : List LifeEnd) → slice_get watch.lives m ≡ Some life → Bounded life
  pub lives : later.lives ≡ watch.lives
  pub shown : later.shown ≡ all_show row.cells.items out.cells.items watch.latests
  pub latests : later.latests ≡ all_next (all_meet row.cells.items out.cells.items) (all_meet row.cells.items out.cells.items) watch.lives row.cells.items out.cells.items watch.latests

module _ (p : Process) (rows : List Row) (outs : List OutRow) (row : Row) (out : OutRow) (watch later : Watching) (taken : Taken p rows outs row out watch later) where
  module _ (wires : Wires) (showing : ShowsRows p wires (rows ++ row ∷ []) (outs ++ out ∷ [])) where
    before : StandsAt p wires (length rows) watch
    before = taken.stands.stands wires (shows_before p wires rows outs row out showing)

    valid_now : (m : ℕ) → wires.valid m (length rows) ≡ (wires_nth row.cells.items out.cells.items m).valid
    valid_now m = (now p wires rows outs row out showing m).valid ∙ (port_seen p.ports row.cells.items out.cells.items m taken.fits taken.out_fits).valid

    ack_now : (m : ℕ) → wires.ack m (length rows) ≡ (wires_nth row.cells.items out.cells.items m).ack
    ack_now m = (now p wires rows outs row out showing m).ack ∙ (port_seen p.ports row.cells.items out.cells.items m taken.fits taken.out_fits).ack

    data_now : (m : ℕ) → wires.data_at m (length rows) ≡ (wires_nth row.cells.items out.cells.items m).number.value
    data_now m = (now p wires rows outs row out showing m).data_at ∙ (port_seen p.ports row.cells.items out.cells.items m taken.fits taken.out_fits).number

    exchanged_now : (m : ℕ) → slice_index_or (all_meet row.cells.items out.cells.items) m false ≡ exchanged wires m (length rows)
    exchanged_now m =
        let inside = within p wires rows outs row out showing in
        let test : nat_lt (length rows) wires.count ≡ true = grind (arith, nat_tests) in
        meets_nth row.cells.items out.cells.items m ∙ rw (test, valid_now m, ack_now m) refl

    watches : Watches p wires (length rows) row.cells.items watch.latests
    watches = record {
      within = within p wires rows outs row out showing;
      latest = before.latest;
      kept = before.kept;
      fits = taken.fits;
      data_at = λ m received. (now p wires rows outs row out showing m).data_at ∙ ap (λ b. if b then data_in (nth_cell row.cells.items m) else data_by (slice_get out.cells.items m)) received;
    }

    pub broken_here : (port : ℕ) → IsFirstBroken row.cells.items watch.latests port → IsFirstBreach p wires (length rows) port
    broken_here port first = (watched p wires (length rows) row.cells.items watch.latests watches).1 port first

    kept_now : NoneBroken row.cells.items watch.latests → (t : ℕ) → t < length (rows ++ row ∷ []) → PromisesKept p wires t
    kept_now none t less = by_case (nat_lt t (length rows)) refl
      where
        by_case : (b : Bool) → nat_lt t (length rows) ≡ b → PromisesKept p wires t
        by_case true test = let earlier : t < length rows = grind (arith, nat_tests) in before.kept t earlier
        by_case false test =
            let since : length rows ≤ t = grind (arith, nat_tests) in
            let count = one_more rows row in
            let here : length rows ≡ t = omega arith in
            subst (PromisesKept p wires) here ((watched p wires (length rows) row.cells.items watch.latests watches).0 none)

    cell_count : length row.cells.items ≡ length p.ports
    cell_count = cells_count p.ports row.cells.items taken.fits

    out_count : length out.cells.items ≡ length p.ports
    out_count = outs_count p.ports out.cells.items taken.out_fits

    kept_count : length watch.latests ≡ length p.ports
    kept_count = taken.latest_count ∙ (ap (λ l. length l) taken.stands.lives ∙ lives_count p.ports)
      where
        lives_count : (ports : List Port) → length (lives_of ports) ≡ length ports
        lives_count [] = refl
        lives_count (port ∷ ports) = ap suc (lives_count ports)

    life_there : (m : ℕ) → m < length p.ports → slice_get watch.lives m ≡ Some (life_of p m)
    life_there m less = ap (λ lives. slice_get lives m) taken.stands.lives ∙ life_nth p.ports m less

    latest_now : (m : ℕ) → m < length p.ports → IsLatest (exchanged wires) (life_of p m) m (wires.data_at m) (length rows + 1) (slice_index_or later.latests m no_latest)
    latest_now m less =
        let cells = cell_count in
        let driven = out_count in
        let kept = kept_count in
        let met : length (all_meet row.cells.items out.cells.items) ≡ length row.cells.items = meet_count row.cells.items out.cells.items (driven ∙ sym cells) in
        let all : List Bool = all_meet row.cells.items out.cells.items in
        let is : slice_index_or later.latests m no_latest ≡ next all (life_of p m) (exchanged wires m (length rows)) (wires_nth row.cells.items out.cells.items m).number (slice_index_or watch.latests m no_latest) =
        ap (λ latests. slice_index_or latests m no_latest) taken.latests
        ∙ (next_nth all all watch.lives row.cells.items out.cells.items watch.latests m (life_of p m) (life_there m less) (omega arith) (omega arith) (omega arith) (omega arith)
        ∙ ap (λ b. next all (life_of p m) b (wires_nth row.cells.items out.cells.items m).number (slice_index_or watch.latests m no_latest)) (exchanged_now m)) in
        subst (IsLatest (exchanged wires) (life_of p m) m (wires.data_at m) (length rows + 1)) (sym is)
        (goes_on (exchanged wires) (life_of p m) m (length rows) (wires.data_at m) all (wires_nth row.cells.items out.cells.items m).number (slice_index_or watch.latests m no_latest)
        (taken.bounded m (life_of p m) (life_there m less)) exchanged_now (λ met. sym (data_now m)) (before.latest m less))

    shown_now : (t m : ℕ) → length (rows ++ row ∷ []) ≡ t + 1 → m < length p.ports → shown_at later m ≡ is_shown wires (life_of p m) m t
    shown_now t m count less =
        let cells = cell_count in
        let driven = out_count in
        let kept = kept_count in
        let more = one_more rows row in
        let here : length rows ≡ t = omega arith in
        let told = shown_told wires (life_of p m) m (length rows) (wires.data_at m) (slice_index_or watch.latests m no_latest) (before.latest m less) in
        ap (λ flags. slice_index_or flags m false) taken.shown
        ∙ (shows_nth row.cells.items out.cells.items watch.latests m (omega arith) (omega arith) (omega arith)
        ∙ (ap (λ b. b || (slice_index_or watch.latests m no_latest).lives) (sym (valid_now m)) ∙ (sym told ∙ ap (is_shown wires (life_of p m) m) here)))

    stands_now : NoneBroken row.cells.items watch.latests → StandsAt p wires (length (rows ++ row ∷ [])) later
    stands_now none = record {
      kept = kept_now none;
      latest = λ m less. subst (λ n. IsLatest (exchanged wires) (life_of p m) m (wires.data_at m) n (slice_index_or later.latests m no_latest)) (sym (one_more rows row)) (latest_now m less);
      shown = shown_now;
    }

  pub stands_later : NoneBroken row.cells.items watch.latests → StandsAfter p (rows ++ row ∷ []) (outs ++ out ∷ []) later
  stands_later none = record { lives = taken.lives ∙ taken.stands.lives; stands = λ wires showing. stands_now wires showing none }

-- a watch of which nothing was taken
pub stands_first : (p : Process) (watch : Watching) → watch.lives ≡ lives_of p.ports → ((m : ℕ) → (slice_index_or watch.latests m no_latest).lives ≡ false) → StandsAfter p [] [] watch
stands_first p watch lives none = record {
  lives = lives;
  stands = λ wires showing. record { kept = λ t less. absurd (omega arith); latest = λ m less. none m; shown = λ t m count less. absurd (omega arith) };
}

-- what the answer tells of the search
pub none_found : (broken : Option ℕ) (NoneThere : Type 0) (First : ℕ → Type 0) → MatchOption broken NoneThere First → answered broken ≡ Kept → NoneThere
none_found None NoneThere First found is = found
none_found (Some port) NoneThere First found is = absurd cc

pub first_found : (broken : Option ℕ) (NoneThere : Type 0) (First : ℕ → Type 0) (port : ℕ) → MatchOption broken NoneThere First → answered broken ≡ Broken port → First port
first_found None NoneThere First port found is = absurd cc
first_found (Some other) NoneThere First port found is = let same : other ≡ port = cc in subst First same found
