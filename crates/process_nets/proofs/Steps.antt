-- What the acts of threads do together, one act and one thread after the other.
use Rattle.std.proofs.Common.{◌≡◌, ℕ, suc, ◌+◌, ◌≤◌, Bool, true, false, List, ◌∷◌, length, drop, Some, refl, sym, ◌∙◌, ap, arith}
use Rattle.std.specs.Prelude.{◌||◌, if◌then◌else◌, slice_get}
use Rattle.std.proofs.Math.Bool.{or_assoc}
use Rattle.std.proofs.Math.Seq.{drop-cons, drop-length}
use Rattle.std.proofs.lemmas.List.{drop_all}
use Rattle.std.proofs.lemmas.Option.{get_or_from_slice_get, slice_get_within}
use Rattle.sv_tree.specs.Module.{Module}
use Rattle.module_nets.specs.Netlist.{Extends}
use Rattle.module_nets.specs.Shown.{Moment}
use Rattle.module_nets.specs.Signals.{signal_at}
use Rattle.module_nets.proofs.Growing.{stands_later}
use Rattle.module_nets.proofs.BitsTold.{bit_later}
use Rattle.pulse_nets.specs.Pulses.{pulse_at}
use Rattle.machine_parts.specs.declared.thread.ThreadDraft.{ThreadDraft}
use Rattle.machine_parts.specs.Parts.{node_at}
use Rattle.machine_parts.specs.Drafts.{data_now, port_offered, written_now}
use Rattle.process_nets.specs.Acts.{DataStand, OffersStand, WritesStand}
use Rattle.process_nets.specs.Acts.{data_by, offered_by, offers_now, sets_now, shows_now, value_now, written_by}
use Rattle.process_nets.proofs.Bits.{are_bits_later}
use Rattle.process_nets.proofs.Sends.{begins_later}

-- what stands for a draft stands later
pub writes_later : (old new : Module) (register width : ℕ) (draft : ThreadDraft) → Extends old new → WritesStand old register width draft → WritesStand new register width draft
writes_later old new register width draft e stand = record {
  begins = begins_later old new draft.plan.now draft.nets.pulses.items e stand.begins;
  values = λ site is. let value = stand.values site is in (stands_later old new (signal_at draft.nets.values.items site) e value.0, value.1);
}

pub offers_later : (old new : Module) (draft : ThreadDraft) → Extends old new → OffersStand old draft → OffersStand new draft
offers_later old new draft e stand site within =
    bit_later old new (pulse_at draft.nets.pulses.items (node_at draft.plan.now.ends.items site)).known e (stand site within)

pub data_later : (old new : Module) (port width : ℕ) (draft : ThreadDraft) → Extends old new → DataStand old port width draft → DataStand new port width draft
data_later old new port width draft e stand = record {
  newest = are_bits_later old new draft.newest.items e stand.newest;
  values = λ site is. let value = stand.values site is in (stands_later old new (signal_at draft.nets.values.items site) e value.0, value.1);
}

-- one act more
module _ (now : Moment) (draft : ThreadDraft) where
  pub written_next : (register before taken after site : ℕ) → after ≡ (if sets_now now draft register site then value_now now draft site else taken)
      → taken ≡ written_by now draft register before site → after ≡ written_by now draft register before (site + 1)
  written_next register before taken after site is so =
      let next : site + 1 ≡ suc site = omega arith in
      rw next (is ∙ ap (λ (t : ℕ). if sets_now now draft register site then value_now now draft site else t) so)

  pub offered_next : (port : ℕ) (before any after : Bool) (site : ℕ) → after ≡ (any || offers_now now draft port site)
      → any ≡ (before || offered_by now draft port site) → after ≡ (before || offered_by now draft port (site + 1))
  offered_next port before any after site is so =
      let next : site + 1 ≡ suc site = omega arith in
      rw next
      (is ∙ (ap (λ (t : Bool). t || offers_now now draft port site) so
      ∙ or_assoc before (offered_by now draft port site) (offers_now now draft port site)))

  pub data_next : (port other sent after site next many more : ℕ) → next ≡ site + 1 → more ≡ suc many
      → after ≡ (if shows_now now draft port site then value_now now draft site else sent)
      → sent ≡ data_by now draft port other next many → after ≡ data_by now draft port other site more
  data_next port other sent after site next many more one longer is so =
      rw (longer, ← one) (is ∙ ap (λ (t : ℕ). if shows_now now draft port site then value_now now draft site else t) so)

pub or_nothing : (b : Bool) → b ≡ (b || false)
or_nothing true = refl
or_nothing false = refl

-- one thread more
pub drop_at : (drafts : List ThreadDraft) (k : ℕ) (draft : ThreadDraft) → slice_get drafts k ≡ Some draft → drop k drafts ≡ draft ∷ drop (k + 1) drafts
drop_at drafts k draft is =
    let next : k + 1 ≡ suc k = omega arith in
    rw next
    (drop-cons drafts k draft (slice_get_within drafts k draft is)
    ∙ ap (λ (one : ThreadDraft). one ∷ drop (suc k) drafts) (get_or_from_slice_get drafts k draft draft is))

pub written_thread : (now : Moment) (drafts : List ThreadDraft) (k register taken after whole : ℕ) (draft : ThreadDraft) → slice_get drafts k ≡ Some draft
    → after ≡ written_by now draft register taken (length draft.plan.now.deeds.items)
    → written_now now (drop k drafts) register taken ≡ whole → written_now now (drop (k + 1) drafts) register after ≡ whole
written_thread now drafts k register taken after whole draft is so before =
    ap (λ (t : ℕ). written_now now (drop (k + 1) drafts) register t) so
    ∙ (sym (ap (λ (list : List ThreadDraft). written_now now list register taken) (drop_at drafts k draft is)) ∙ before)

pub written_all : (now : Moment) (drafts : List ThreadDraft) (k register taken whole : ℕ) → length drafts ≤ k
    → written_now now (drop k drafts) register taken ≡ whole → taken ≡ whole
written_all now drafts k register taken whole past is =
    sym (ap (λ (list : List ThreadDraft). written_now now list register taken) (drop_all k drafts past)) ∙ is

pub offered_thread : (now : Moment) (drafts : List ThreadDraft) (k port : ℕ) (any after whole : Bool) (draft : ThreadDraft) → slice_get drafts k ≡ Some draft
    → after ≡ (any || offered_by now draft port (length draft.plan.now.deeds.items))
    → (any || port_offered now (drop k drafts) port) ≡ whole → (after || port_offered now (drop (k + 1) drafts) port) ≡ whole
offered_thread now drafts k port any after whole draft is so before =
    ap (λ (t : Bool). t || port_offered now (drop (k + 1) drafts) port) so
    ∙ (or_assoc any (offered_by now draft port (length draft.plan.now.deeds.items)) (port_offered now (drop (k + 1) drafts) port)
    ∙ (sym (ap (λ (list : List ThreadDraft). any || port_offered now list port) (drop_at drafts k draft is)) ∙ before))

pub offered_all : (now : Moment) (drafts : List ThreadDraft) (k port : ℕ) (any whole : Bool) → length drafts ≤ k
    → (any || port_offered now (drop k drafts) port) ≡ whole → any ≡ whole
offered_all now drafts k port any whole past is =
    or_nothing any ∙ (sym (ap (λ (list : List ThreadDraft). any || port_offered now list port) (drop_all k drafts past)) ∙ is)

pub data_thread : (now : Moment) (drafts : List ThreadDraft) (k next port sent after : ℕ) (draft : ThreadDraft) → slice_get drafts k ≡ Some draft → next ≡ k + 1
    → after ≡ data_by now draft port sent 0 (length draft.plan.now.deeds.items)
    → sent ≡ data_now now (drop next drafts) port → after ≡ data_now now (drop k drafts) port
data_thread now drafts k next port sent after draft is one so before =
    so
    ∙ (ap (λ (d : ℕ). data_by now draft port d 0 (length draft.plan.now.deeds.items)) (before ∙ ap (λ (n : ℕ). data_now now (drop n drafts) port) one)
    ∙ sym (ap (λ (list : List ThreadDraft). data_now now list port) (drop_at drafts k draft is)))

pub data_start : (now : Moment) (drafts : List ThreadDraft) (port none count : ℕ) → count ≡ length drafts → none ≡ 0 → none ≡ data_now now (drop count drafts) port
data_start now drafts port none count all is_zero =
    is_zero ∙ sym (ap (λ (list : List ThreadDraft). data_now now list port) (ap (λ (n : ℕ). drop n drafts) all ∙ drop-length drafts))
