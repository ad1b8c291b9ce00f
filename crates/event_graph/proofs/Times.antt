-- The nodes of a graph have times, and no others.
--
-- The time of a node is told by those of its predecessors, which are earlier nodes. So two lists of times are the same by
-- induction over the number of the node. To find one, a bound on the depth goes down with each predecessor: from n + 1 on it does
-- not matter at the node n.
use Rattle.std.proofs.Common.{◌≡◌, ℕ, zero, suc, ◌<◌, arith, refl, sym, ◌∙◌, ap, if◌then◌else◌, List, length, Option, None}
use Rattle.order_rules.specs.Form.{Form, Start, Same, After, Sync, Join, Side, Merge}
use Rattle.order_rules.specs.Entry.{IsEarlier}
use Rattle.event_graph.specs.declared.node.Arm.{Arm}
use Rattle.event_graph.specs.Event.{Event, AreDrawn}
use Rattle.event_graph.specs.Forms.{form_at, arms_at}
use Rattle.event_graph.specs.Times.{Given, plus, by_delay, is_taken, time_by, AreTimes}
use Rattle.event_graph.proofs.Early.{all_early}

-- the time of a node depends on those of its predecessors alone
by_earlier : (given : Given) (time other : ℕ → Option ℕ) (n : ℕ) (arms : List Arm) (form : Form ℕ)
    → IsEarlier n form → ((c : ℕ) → c < n → time c ≡ other c) → time_by given time n arms form ≡ time_by given other n arms form
by_earlier given time other n arms Start early same = refl
by_earlier given time other n arms (Same c) early same = same c early
by_earlier given time other n arms (After cycles c) early same = ap (plus cycles) (same c early)
by_earlier given time other n arms (Sync c) early same = ap (by_delay (given.delay n)) (same c early)
by_earlier given time other n arms (Join c e) early same = rw (same c early.0, same e early.1) refl
by_earlier given time other n arms (Side c) early same = ap (λ (t : Option ℕ). if is_taken given.side arms then t else None) (same c early)
by_earlier given time other n arms (Merge c e) early same = rw (same c early.0, same e early.1) refl

module _ (events : List Event) (drawn : AreDrawn 0 events) (given : Given) where
  module _ (time other : ℕ → Option ℕ) (are : AreTimes events given time) (are_too : AreTimes events given other) where
    same_below : (m n : ℕ) → n < m → n < length events → time n ≡ other n
    same_below zero n below within = absurd (omega arith)
    same_below (suc m) n below within =
        are n within
        ∙ (by_earlier given time other n (arms_at events n) (form_at events n) (all_early events drawn n) (λ c early. same_below m c (omega arith) (omega arith))
        ∙ sym (are_too n within))

    pub times_same : (n : ℕ) → n < length events → time n ≡ other n
    times_same n within = same_below (suc n) n (omega arith) within

  -- the time of a node, by going at most so deep
  within_depth : ℕ → ℕ → Option ℕ
  within_depth zero n = None
  within_depth (suc depth) n = time_by given (within_depth depth) n (arms_at events n) (form_at events n)

  depth_past : (depth more n : ℕ) → n < depth → n < more → within_depth depth n ≡ within_depth more n
  unfolding within_depth
  depth_past zero more n deep deep_too = absurd (omega arith)
  depth_past (suc depth) zero n deep deep_too = absurd (omega arith)
  depth_past (suc depth) (suc more) n deep deep_too =
      by_earlier given (within_depth depth) (within_depth more) n (arms_at events n) (form_at events n) (all_early events drawn n) (λ c early. depth_past depth more c (omega arith) (omega arith))

  times : ℕ → Option ℕ
  times n = within_depth (suc n) n

  times_are : AreTimes events given times
  unfolding times within_depth
  times_are n within =
      by_earlier given (within_depth n) times n (arms_at events n) (form_at events n) (all_early events drawn n) (λ c early. depth_past n (suc c) c early (omega arith))

  pub have_times : (time : ℕ → Option ℕ) × AreTimes events given time
  have_times = (times, times_are)
