-- The re-reading run agrees with the source run on every wire, up to the cycle to which the promises are kept.
--
-- Both offer the same acts, so `valid` and `ack` are the same. The hard case is the data of a sent port in the life of an
-- exchange: the source run shows what the exchange had, the re-reading run reads the value of the `send` that began last; that
-- is the `send` of the exchange, whose value is still in use.
use Rattle.std.proofs.Common.{◌≡◌, ℕ, ◌<◌, ◌≤◌, ◌⊎◌, inl, inr, arith, refl, sym, ◌∙◌, ap, subst, Bool, true, false, Option, Some, None}
use Rattle.core_term.specs.Term.{Expr, Term, Act, Cycle, Set, Send, Recv, If, When, Block, Wait, Pure, Nothing, head}
use Rattle.core_term.specs.Value.{Value, Outcome, Done, value}
use Rattle.core_term.specs.Inputs.{Inputs}
use Rattle.core_term.specs.Ends.{Sees, sees, act_ends}
use Rattle.core_term.specs.Fate.{Runs}
use Rattle.core_term.specs.Turns.{run_of}
use Rattle.core_term.specs.Process.{Process, life_of, is_received, IsProcess}
use Rattle.core_term.specs.Acts.{OnPort, Sends, Uses}
use Rattle.core_term.specs.Wires.{InLife}
use Rattle.core_term.specs.Outputs.{Offer, offered, driven, has, valid_wire, ack_wire, data_wire, shown_data, data_of, sent_value, wires}
use Rattle.core_term.specs.History.{IsHistory}
use Rattle.core_term.specs.Rules.{KeepsDemands}
use Rattle.core_term.specs.Log.{Begun, InUse}
use Rattle.core_term.specs.Reread.{Reread, IsReread, Begins, Offers, deciding}
use Rattle.core_term.specs.Agreement.{Shows, AgreesAt}
use Rattle.run_laws.proofs.source_runs.Offers.{OfferedIn, offered_as, driven_is, is_driven}
use Rattle.run_laws.proofs.source_runs.Exchanges.{side_begun, offered_ends, driven_at}
use Rattle.run_laws.proofs.safe_runs.ThreadEnds.{began_last}
use Rattle.run_laws.proofs.safe_runs.SafeRun.{safe}
use Rattle.run_laws.proofs.rereading.Agreeing.{Same, Promised, same_at, use_again}

both_ways : (a b : Bool) → (a ≡ true → b ≡ true) → (b ≡ true → a ≡ true) → a ≡ b
both_ways true b k l = sym (k refl)
both_ways false true k l = l refl
both_ways false false k l = refl

-- the end of a send or recv is told by the rows alone
port_end : (inputs : Inputs) (g g' : Sees) (scope scope' : ℕ → Outcome) (s m : ℕ) (a : Act) → OnPort a m → act_ends inputs g scope s a ≡ act_ends inputs g' scope' s a
port_end inputs g g' scope scope' s m (Send p n e) k = refl
port_end inputs g g' scope scope' s m (Recv p n) k = refl
port_end inputs g g' scope scope' s m (Cycle p n) k = elim k [ ]
port_end inputs g g' scope scope' s m (Set p r e) k = elim k [ ]
port_end inputs g g' scope scope' s m (If p e t u w) k = elim k [ ]
port_end inputs g g' scope scope' s m (When p e t) k = elim k [ ]
port_end inputs g g' scope scope' s m (Block p t) k = elim k [ ]
port_end inputs g g' scope scope' s m (Wait p y) k = elim k [ ]
port_end inputs g g' scope scope' s m (Pure p e) k = elim k [ ]
port_end inputs g g' scope scope' s m (Nothing p) k = elim k [ ]

-- what a send sends
sent : (registers : ℕ → ℕ → ℕ) (scope : ℕ → Outcome) (s m : ℕ) (a : Act) → Sends a m → (e : Expr) × Uses a e × (sent_value registers s scope a ≡ (value registers scope s e).number)
sent registers scope s m (Send p n e) k = (e, refl, refl)
sent registers scope s m (Recv p n) k = elim k [ ]
sent registers scope s m (Cycle p n) k = elim k [ ]
sent registers scope s m (Set p r e) k = elim k [ ]
sent registers scope s m (If p e t u w) k = elim k [ ]
sent registers scope s m (When p e t) k = elim k [ ]
sent registers scope s m (Block p t) k = elim k [ ]
sent registers scope s m (Wait p y) k = elim k [ ]
sent registers scope s m (Pure p e) k = elim k [ ]
sent registers scope s m (Nothing p) k = elim k [ ]

on_port : (a : Act) (m : ℕ) → Sends a m → OnPort a m
on_port (Send p n e) m k = k
on_port (Recv p n) m k = elim k [ ]
on_port (Cycle p n) m k = elim k [ ]
on_port (Set p r e) m k = elim k [ ]
on_port (If p e t u w) m k = elim k [ ]
on_port (When p e t) m k = elim k [ ]
on_port (Block p t) m k = elim k [ ]
on_port (Wait p y) m k = elim k [ ]
on_port (Pure p e) m k = elim k [ ]
on_port (Nothing p) m k = elim k [ ]

send_in_use : (p : Process) (inputs : Inputs) (registers : ℕ → ℕ → ℕ) (scope : ℕ → Outcome) (s c m : ℕ) (a : Act) → Sends a m → s ≤ c → c < inputs.count → ((t : ℕ) (v : Value) → act_ends inputs (sees registers) scope s a ≡ Done t v → (c ≤ t) ⊎ InLife (wires p inputs registers) (life_of p m) t c) → InUse p inputs registers scope s a c
send_in_use p inputs registers scope s c m (Send q n e) k l l' f = (l, l', λ t v i. let Statement : ℕ → Type 0 = λ z. InLife (wires p inputs registers) (life_of p z) t c in elim (f t v i) [ inl y ↦ inl y | inr y ↦ inr (subst Statement (sym k) y) ])
send_in_use p inputs registers scope s c m (Set q n e) k l l' f = elim k [ ]
send_in_use p inputs registers scope s c m (If q e u w d) k l l' f = elim k [ ]
send_in_use p inputs registers scope s c m (When q e u) k l l' f = elim k [ ]
send_in_use p inputs registers scope s c m (Cycle q n) k l l' f = elim k [ ]
send_in_use p inputs registers scope s c m (Recv q n) k l l' f = elim k [ ]
send_in_use p inputs registers scope s c m (Block q u) k l l' f = elim k [ ]
send_in_use p inputs registers scope s c m (Wait q y) k l l' f = elim k [ ]
send_in_use p inputs registers scope s c m (Pure q e) k l l' f = elim k [ ]
send_in_use p inputs registers scope s c m (Nothing q) k l l' f = elim k [ ]

module _ (p : Process) (process : IsProcess p) (accepted : KeepsDemands p) (inputs : Inputs) (registers : ℕ → ℕ → ℕ) (history : IsHistory p inputs registers) (run : Reread) (again : IsReread p inputs run)
    (t : ℕ) (short : t < inputs.count) (promised : Promised p process accepted inputs registers history run again t) where
  same : Same p process accepted inputs registers history run again t
  same = same_at p process accepted inputs registers history run again t short promised

  -- the same acts are offered
  there : (m : ℕ) → OfferedIn inputs registers p.threads m t → Offers p inputs run m t
  there m o =
      let by_fates = (same.fates o.j o.thread o.is o.turn o.place).there o.act.scope o.act.begin o.act.term o.act.runs o.pending.begun in
      record {
        j = o.j;
        thread = o.thread;
        is = o.is;
        turn = o.turn;
        site = o.place;
        act = record { scope = by_fates.0; begin = o.act.begin; term = o.act.term; runs = by_fates.1 };
        on = o.on;
        begun = o.pending.begun;
        not_ended = λ e v q. o.pending.not_ended e v (port_end inputs (sees registers) (deciding run.registers (run.decision o.j)) o.act.scope by_fates.0 o.act.begin m (head o.act.term) o.on ∙ q);
      }

  back : (m : ℕ) → Offers p inputs run m t → OfferedIn inputs registers p.threads m t
  back m o =
      let next_by_fates = (same.fates o.j o.thread o.is o.turn o.site).back o.act.scope o.act.begin o.act.term o.act.runs o.begun in
      record {
        j = o.j;
        thread = o.thread;
        is = o.is;
        turn = o.turn;
        place = o.site;
        act = record { scope = next_by_fates.0; begin = o.act.begin; term = o.act.term; runs = next_by_fates.1 };
        on = o.on;
        pending = record { begun = o.begun; not_ended = λ e v q. o.not_ended e v (sym (port_end inputs (sees registers) (deciding run.registers (run.decision o.j)) next_by_fates.0 o.act.scope o.act.begin m (head o.act.term) o.on) ∙ q) };
      }

  driven_same : (m : ℕ) (b : Bool) → (b ≡ true → Offers p inputs run m t) × (Offers p inputs run m t → b ≡ true) → driven p inputs registers m t ≡ b
  driven_same m b k = both_ways (driven p inputs registers m t) b (λ e. k.1 (there m (driven_is inputs registers p m t e))) (λ e. is_driven inputs registers p process m t (back m (k.0 e)))

  valid : (m : ℕ) → valid_wire p inputs registers m t ≡ run.wires.valid m t
  valid m = go (is_received p m) refl
    where
      go : (b : Bool) → is_received p m ≡ b → valid_wire p inputs registers m t ≡ run.wires.valid m t
      go true e = let equal : valid_wire p inputs registers m t ≡ inputs.valid m t = rw e refl in equal ∙ sym (again.valid_in m t e)
      go false e = let next_equal : valid_wire p inputs registers m t ≡ driven p inputs registers m t = rw e refl in next_equal ∙ driven_same m (run.wires.valid m t) (again.valid_out m t short e)

  ack : (m : ℕ) → ack_wire p inputs registers m t ≡ run.wires.ack m t
  ack m = go (is_received p m) refl
    where
      go : (b : Bool) → is_received p m ≡ b → ack_wire p inputs registers m t ≡ run.wires.ack m t
      go true e = let last_equal : ack_wire p inputs registers m t ≡ driven p inputs registers m t = rw e refl in last_equal ∙ driven_same m (run.wires.ack m t) (again.ack_out m t short e)
      go false e = let other_equal : ack_wire p inputs registers m t ≡ inputs.ack m t = rw e refl in other_equal ∙ sym (again.ack_in m t e)

  -- what is shown while it is offered is the value of an act that is offered
  shown_value : (m s : ℕ) → is_received p m ≡ false → driven p inputs registers m s ≡ true → (o : OfferedIn inputs registers p.threads m s) × (e : Expr) × Uses (head o.act.term) e × Sends (head o.act.term) m × (data_wire p inputs registers m s ≡ (value registers o.act.scope o.act.begin e).number)
  shown_value m s side d = go (offered inputs registers p.threads m s) refl d
    where
      shown : data_wire p inputs registers m s ≡ shown_data p inputs registers m s (offered inputs registers p.threads m s)
      shown = rw side refl

      go : (o : Option Offer) → offered inputs registers p.threads m s ≡ o → has o ≡ true → (o : OfferedIn inputs registers p.threads m s) × (e : Expr) × Uses (head o.act.term) e × Sends (head o.act.term) m × (data_wire p inputs registers m s ≡ (value registers o.act.scope o.act.begin e).number)
      go None e f = absurd cc
      go (Some a) e f =
          let by_offered_as = offered_as inputs registers p.threads m s a e in
          let then_offered_as = by_offered_as.0 in
          let the_sends : Sends (head then_offered_as.act.term) m = elim (side_begun inputs registers p process m then_offered_as.j then_offered_as.thread then_offered_as.is then_offered_as.turn then_offered_as.place then_offered_as.act then_offered_as.on) [ inl y ↦ let decided : true ≡ false = sym y.0 ∙ side in absurd cc | inr y ↦ y.1 ] in
          let by_sent = sent registers then_offered_as.act.scope then_offered_as.act.begin m (head then_offered_as.act.term) the_sends in
          (then_offered_as, by_sent.0, by_sent.1, the_sends, shown ∙ (ap (shown_data p inputs registers m s) e ∙ (ap (λ b. data_of registers (Some b)) by_offered_as.1 ∙ by_sent.2)))

  -- the value of a send that is in use is on the port
  in_use_same : (m s : ℕ) (o : OfferedIn inputs registers p.threads m s) (e : Expr) → Uses (head o.act.term) e → Sends (head o.act.term) m → o.act.begin ≤ t → InUse p inputs registers o.act.scope o.act.begin (head o.act.term) t → (value registers o.act.scope o.act.begin e).number ≡ run.wires.data_at m t
  in_use_same m s o e uses sends begun in_cycle =
      let by_use_again = use_again p process accepted inputs registers history run again t short same promised o.j o.thread o.is o.turn o.place o.act e uses in_cycle in
      let by_fates = (same.fates o.j o.thread o.is o.turn o.place).there o.act.scope o.act.begin o.act.term o.act.runs begun in
      let the_begins : Begins inputs run o.j o.thread.body o.turn o.place = record { scope = by_fates.0; begin = o.act.begin; term = o.act.term; runs = by_fates.1 } in
      sym (again.data_out m t short o.j o.thread o.is o.turn o.place the_begins by_use_again.0 by_use_again.1 e sends uses begun last ∙ by_use_again.2)
    where
      last : (turn' place' : ℕ) (a : Begins inputs run o.j o.thread.body turn' place') → Sends (head a.term) m → a.begin ≤ t → (a.begin < o.act.begin) ⊎ ((a.begin ≡ o.act.begin) × (o.place ≤ place'))
      last turn' place' a k l =
          let next_by_fates = (same.fates o.j o.thread o.is turn' place').back a.scope a.begin a.term a.runs l in
          let a' : Begun inputs registers o.thread.body turn' place' = record { scope = next_by_fates.0; begin = a.begin; term = a.term; runs = next_by_fates.1 } in
          elim (began_last p process inputs registers o.j o.thread o.is (accepted o.j o.thread o.is) o.turn o.place turn' place' m t o.act a' sends k (on_port (head a.term) m k) in_cycle l) [
            | inl y ↦ inl y
            | inr y ↦
                let equal : o.turn ≡ turn' = y.0 in
                let i' : o.place ≡ place' = y.1 in
                let next_equal : run_of inputs (sees registers) o.thread.body o.turn o.place ≡ Runs next_by_fates.0 a.begin a.term = rw (equal, i') next_by_fates.1 in
                inr (begins_alike (sym o.act.runs ∙ next_equal), omega arith)
          ]
        where
          begins_alike : {d d' : ℕ → Outcome} {b b' : ℕ} {v v' : Term} → Runs d b v ≡ Runs d' b' v' → b' ≡ b
          begins_alike q = cc

  data_at : (m : ℕ) → is_received p m ≡ false → Shows (wires p inputs registers) (life_of p m) m t → data_wire p inputs registers m t ≡ run.wires.data_at m t
  data_at m side (inl v) =
      let decided : driven p inputs registers m t ≡ true = rw side at v in
      let by_shown_value = shown_value m t side decided in
      let then_shown_value = by_shown_value.0 in
      by_shown_value.4 ∙ in_use_same m t then_shown_value by_shown_value.1 by_shown_value.2 by_shown_value.3 then_shown_value.pending.begun (send_in_use p inputs registers then_shown_value.act.scope then_shown_value.act.begin t m (head then_shown_value.act.term) by_shown_value.3 then_shown_value.pending.begun short (λ e w q. inl (then_shown_value.pending.not_ended e w q)))
  data_at m side (inr (s, exchanging, life)) =
      let next_by_shown_value = shown_value m s side (driven_at inputs registers p process m s exchanging) in
      let by_next_by_shown_value = next_by_shown_value.0 in
      let ended = offered_ends inputs registers p process m s by_next_by_shown_value exchanging in
      let begun : by_next_by_shown_value.act.begin ≤ t = omega (arith, by_next_by_shown_value.pending.begun, life.0) in
      let kept = (safe p process accepted inputs registers).own_promises_kept m side s t exchanging (omega arith) life in
      kept ∙ (next_by_shown_value.4 ∙ in_use_same m s by_next_by_shown_value next_by_shown_value.1 next_by_shown_value.2 next_by_shown_value.3 begun (send_in_use p inputs registers by_next_by_shown_value.act.scope by_next_by_shown_value.act.begin t m (head by_next_by_shown_value.act.term) next_by_shown_value.3 begun short
      (λ e w q. let equal : Done s ended.0 ≡ Done e w = sym ended.1 ∙ q in let next_equal : s ≡ e = cc in inr (subst (λ n. InLife (wires p inputs registers) (life_of p m) n t) next_equal life))))

  -- the theorem
  pub agrees : AgreesAt p (wires p inputs registers) run.wires registers run.registers t
  agrees = record { valid = valid; ack = ack; registers_agree = λ r. sym (same.registers_same t r (omega arith)); data_at = data_at }
