-- The delays of a graph with three nodes more, the last of which has the number of the nodes before it.
use Rattle.std.proofs.Common.{◌≡◌, ℕ, ◌+◌, ◌<◌, List, [], ◌∷◌, ◌++◌, length, length-append, ap, arith}
use Rattle.event_graph.specs.Event.{Event}
use Rattle.event_graph.specs.Forms.{delay_of, delays}

delays_push : (events : List Event) (event : Event) → delays (events ++ event ∷ []) ≡ delays events + delay_of event.kind
delays_push [] event = omega arith
delays_push (first ∷ events) event = let rest = delays_push events event in omega arith

pub three_more : (old one two new : List Event) (a b c : Event) (last : ℕ)
    → one ≡ old ++ a ∷ [] → two ≡ one ++ b ∷ [] → new ≡ two ++ c ∷ [] → last ≡ length two
    → (last < length new) × (delays new ≡ delays old + delay_of a.kind + delay_of b.kind + delay_of c.kind)
three_more old one two new a b c last is_one is_two is_new number =
    let count : length new ≡ length (two ++ c ∷ []) = ap length is_new in
    let first : delays one ≡ delays (old ++ a ∷ []) = ap delays is_one in
    let second : delays two ≡ delays (one ++ b ∷ []) = ap delays is_two in
    let third : delays new ≡ delays (two ++ c ∷ []) = ap delays is_new in
    (omega (arith, length-append two (c ∷ [])), omega (arith, delays_push old a, delays_push one b, delays_push two c))
