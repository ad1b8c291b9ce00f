-- The sends of a port, one act after the other: which begin, and which of them began last.
use Rattle.std.proofs.Common.{◌≡◌, ℕ, suc, ◌+◌, ◌<◌, ◌≤◌, ◌⊎◌, inl, inr, Bool, true, false, not, List, [], ◌∷◌, ◌++◌, length, set, refl, sym, ◌∙◌, ap, subst, arith, length-set}
use Rattle.std.specs.Prelude.{◌==◌, ◌&&◌, ◌||◌, if◌then◌else◌}
use Rattle.std.proofs.lemmas.Bool.{cases_eq, cases_lt, eq-eqb, ne_eqb}
use Rattle.std.proofs.lemmas.List.{get_or-set_same, get_or-set_other, get_or_past}
use Rattle.std.proofs.lemmas.Option.{slice_get_past}
use Rattle.sv_tree.specs.Module.{Module}
use Rattle.module_nets.specs.declared.signal.Signal.{Signal}
use Rattle.module_nets.specs.Netlist.{Extends}
use Rattle.module_nets.specs.Shown.{Moment, IsMomentOf}
use Rattle.module_nets.specs.Bits.{IsBit, Tells, told}
use Rattle.module_nets.proofs.Growing.{of_later}
use Rattle.module_nets.proofs.BitsTold.{bit_later}
use Rattle.pulse_nets.specs.declared.forms.Pulse.{Pulse}
use Rattle.act_deeds.specs.declared.deed.Deed.{Deed}
use Rattle.act_deeds.specs.declared.deed.Deed.TheVariants as deeds
use Rattle.act_deeds.specs.Deeds.{deed_at, deed_or}
use Rattle.machine_parts.specs.declared.plan.TurnPlan.{TurnPlan}
use Rattle.machine_parts.specs.Parts.{bit_at, zero_bit}
use Rattle.machine_parts.specs.Drafts.{begun_now, is_send, NewestDrawn}
use Rattle.process_nets.specs.Newest.{AnyDrawn, BeginsStand, EarlierDrawn, EarliersDrawn, SiteNewest, SitesNewest, begin_at, some_send}
use Rattle.process_nets.proofs.Bits.{pushed, zero_is_bit}

pub same_port : (one other : ℕ) → deeds.Sends one ≡ deeds.Sends other → one ≡ other
same_port one other is = cc

sends_not_other : (port : ℕ) → deeds.Sends port ≡ deeds.Other → ⊥
sends_not_other port is = absurd cc

pub begins_later : (old new : Module) (plan : TurnPlan) (pulses : List Pulse) → Extends old new → BeginsStand old plan pulses → BeginsStand new plan pulses
begins_later old new plan pulses e stand site within = bit_later old new (begin_at plan pulses site) e (stand site within)

module _ (plan : TurnPlan) (pulses : List Pulse) where
  some_next : (now : Moment) (site port : ℕ) (deed : Deed) → deed_at plan.deeds.items site ≡ deed
      → some_send plan pulses port (site + 1) now ≡ (some_send plan pulses port site now || (is_send port deed && begun_now now plan pulses site))
  some_next now site port deed is = let next : site + 1 ≡ suc site = omega arith in rw (next, ← is) refl

  or_here : (some begun test : Bool) → test ≡ true → (some || begun) ≡ (some || (test && begun))
  or_here some begun test is = rw is refl

  or_none : (some begun test : Bool) → test ≡ false → some ≡ (some || (test && begun))
  or_none true begun test is = refl
  or_none false begun test is = rw is refl

  -- before the first act none has begun
  pub any_start : (old : Module) (ports : ℕ) (any : List Signal) → length any ≡ ports → ((place : ℕ) → bit_at any place ≡ zero_bit) → AnyDrawn old plan pulses ports 0 any
  any_start old ports any count none = record {
    ports_all = count;
    bits = λ port. subst (IsBit old) (sym (none port)) (zero_is_bit old);
    tells = λ port within now of. ap (told now) (none port);
  }

  -- a send counts for its port
  pub any_send : (old new : Module) (ports site port : ℕ) (any : List Signal) (after : Signal) → Extends old new → AnyDrawn old plan pulses ports site any
      → deed_at plan.deeds.items site ≡ deeds.Sends port → port < ports → IsBit new after
      → Tells new after (λ now. told now (bit_at any port) || told now (begin_at plan pulses site))
      → AnyDrawn new plan pulses ports (site + 1) (set any port after)
  any_send old new ports site port any after e drawn is within bit tells = record {
    ports_all = length-set any port after ∙ drawn.ports_all;
    bits = λ other. bits other (same other);
    tells = λ other inside now of. shows other now of inside (same other);
  }
    where
      there : port < length any
      there = let count = drawn.ports_all in omega (arith, within, count)

      same : (other : ℕ) → (other ≡ port) ⊎ (other ≡ port → ⊥)
      same other = cases_eq other port

      bits : (other : ℕ) → (other ≡ port) ⊎ (other ≡ port → ⊥) → IsBit new (bit_at (set any port after) other)
      bits other (inl here) = subst (λ o. IsBit new (bit_at (set any port after) o)) (sym here) (subst (IsBit new) (sym (get_or-set_same any port after zero_bit there)) bit)
      bits other (inr apart) = subst (IsBit new) (sym (get_or-set_other any port other after zero_bit apart)) (bit_later old new (bit_at any other) e (drawn.bits other))

      shows : (other : ℕ) (now : Moment) → IsMomentOf new now → other < ports → (other ≡ port) ⊎ (other ≡ port → ⊥)
          → told now (bit_at (set any port after) other) ≡ some_send plan pulses other (site + 1) now
      shows other now of inside (inl here) =
          subst (λ o. told now (bit_at (set any port after) o) ≡ some_send plan pulses o (site + 1) now) (sym here)
          (ap (told now) (get_or-set_same any port after zero_bit there)
          ∙ (tells now of
          ∙ (ap (λ some. some || told now (begin_at plan pulses site)) (drawn.tells port within now (of_later old new now e of))
          ∙ (or_here _ _ (port == port) (eq-eqb port port refl) ∙ sym (some_next now site port (deeds.Sends port) is)))))
      shows other now of inside (inr apart) =
          ap (told now) (get_or-set_other any port other after zero_bit apart)
          ∙ (drawn.tells other inside now (of_later old new now e of)
          ∙ (or_none _ _ (port == other) (ne_eqb port other (λ same. apart (sym same))) ∙ sym (some_next now site other (deeds.Sends port) is)))

  -- before it the bit of its port tells of earlier ones
  pub earlier_send : (old new : Module) (ports site port : ℕ) (any : List Signal) (earlier : Signal) → Extends old new → AnyDrawn old plan pulses ports site any
      → deed_at plan.deeds.items site ≡ deeds.Sends port → port < ports → earlier ≡ bit_at any port → EarlierDrawn new plan pulses site earlier
  earlier_send old new ports site port any earlier e drawn is within read = record {
    bit = subst (IsBit new) (sym read) (bit_later old new (bit_at any port) e (drawn.bits port));
    tells = λ other sends now of.
        subst (λ o. told now earlier ≡ some_send plan pulses o site now) (same_port port other (sym is ∙ sends))
        (ap (told now) read ∙ drawn.tells port within now (of_later old new now e of));
  }

  earlier_later : (old new : Module) (site : ℕ) (earlier : Signal) → Extends old new → EarlierDrawn old plan pulses site earlier → EarlierDrawn new plan pulses site earlier
  earlier_later old new site earlier e drawn = record {
    bit = bit_later old new earlier e drawn.bit;
    tells = λ port is now of. drawn.tells port is now (of_later old new now e of);
  }

  pub earliers_push : (old new : Module) (list : List Signal) (one : Signal) (k : ℕ) → Extends old new → length list ≡ k
      → EarliersDrawn old plan pulses list k → EarlierDrawn new plan pulses k one → EarliersDrawn new plan pulses (list ++ one ∷ []) (k + 1)
  earliers_push old new list one k e count drawn last =
      pushed (EarlierDrawn new plan pulses) list one k count (λ j within. earlier_later old new j (bit_at list j) e (drawn j within)) last

  pub earliers_later : (old new : Module) (list : List Signal) (k : ℕ) → Extends old new → EarliersDrawn old plan pulses list k → EarliersDrawn new plan pulses list k
  earliers_later old new list k e drawn site within = earlier_later old new site (bit_at list site) e (drawn site within)

  pub any_later : (old new : Module) (ports k : ℕ) (any : List Signal) → Extends old new → AnyDrawn old plan pulses ports k any → AnyDrawn new plan pulses ports k any
  any_later old new ports k any e drawn = record {
    ports_all = drawn.ports_all;
    bits = λ port. bit_later old new (bit_at any port) e (drawn.bits port);
    tells = λ port within now of. drawn.tells port within now (of_later old new now e of);
  }

  module _ (kept : List Signal) where
    -- a send began last of its port
    pub newest_send : (old mid new : Module) (ports site port : ℕ) (any : List Signal) (earlier first newest : Signal) → Extends old mid → Extends mid new
        → deed_at plan.deeds.items site ≡ deeds.Sends port → port < ports → AnyDrawn old plan pulses ports (length plan.deeds.items) any
        → EarlierDrawn old plan pulses site earlier
        → Tells mid first (λ now. told now (begin_at plan pulses site) && not (told now earlier))
        → IsBit new newest
        → Tells new newest (λ now. if told now (bit_at any port) then told now first else told now (bit_at kept site))
        → SiteNewest new plan kept pulses site newest
    newest_send old mid new ports site port any earlier first newest e f is within all before tells bit chosen = record {
      bit = bit;
      send = λ other sends now of.
          subst (λ o. told now newest ≡ (if some_send plan pulses o (length plan.deeds.items) now then begun_now now plan pulses site && not (some_send plan pulses o site now) else told now (bit_at kept site)))
          (same_port port other (sym is ∙ sends))
          (let middle = of_later mid new now f of in
          let start = of_later old mid now e middle in
          chosen now of
          ∙ chosen_same _ _ _ _ _ (all.tells port within now start)
          (tells now middle ∙ ap (λ some. begun_now now plan pulses site && not some) (before.tells port is now start)));
      other = λ not_send. absurd (not_send port is);
    }
      where
        chosen_same : (a b c d : Bool) (x : Bool) → a ≡ c → b ≡ d → (if a then b else x) ≡ (if c then d else x)
        chosen_same a b c d x one two = rw (one, two) refl

    newest_later : (old new : Module) (site : ℕ) (newest : Signal) → Extends old new → SiteNewest old plan kept pulses site newest → SiteNewest new plan kept pulses site newest
    newest_later old new site newest e is = record {
      bit = bit_later old new newest e is.bit;
      send = λ port sends now of. is.send port sends now (of_later old new now e of);
      other = is.other;
    }

    pub newest_push : (old new : Module) (list : List Signal) (one : Signal) (k : ℕ) → Extends old new → length list ≡ k
        → SitesNewest old plan kept pulses list k → SiteNewest new plan kept pulses k one → SitesNewest new plan kept pulses (list ++ one ∷ []) (k + 1)
    newest_push old new list one k e count drawn last =
        pushed (SiteNewest new plan kept pulses) list one k count (λ j within. newest_later old new j (bit_at list j) e (drawn j within)) last

    -- all of them together
    pub newest_all : (old : Module) (list : List Signal) → length list ≡ length plan.deeds.items → SitesNewest old plan kept pulses list (length plan.deeds.items) → NewestDrawn old plan kept pulses list
    newest_all old list count drawn = record {
      count = count;
      bits = λ site within. (drawn site within).bit;
      sends = λ site port is. (drawn site (there site port is)).send port is;
      others = λ site none. none_at site none (cases_lt site (length plan.deeds.items));
    }
      where
        there : (site port : ℕ) → deed_at plan.deeds.items site ≡ deeds.Sends port → site < length plan.deeds.items
        there site port is = inside (cases_lt site (length plan.deeds.items))
          where
            inside : (site < length plan.deeds.items) ⊎ (length plan.deeds.items ≤ site) → site < length plan.deeds.items
            inside (inl within) = within
            inside (inr past) = absurd (sends_not_other port (sym is ∙ ap deed_or (slice_get_past plan.deeds.items site past)))

        none_at : (site : ℕ) → ((port : ℕ) → deed_at plan.deeds.items site ≡ deeds.Sends port → ⊥) → (site < length plan.deeds.items) ⊎ (length plan.deeds.items ≤ site) → bit_at list site ≡ zero_bit
        none_at site none (inl within) = (drawn site within).other none
        none_at site none (inr past) = get_or_past list site zero_bit (omega (arith, past, count))
