-- The bytes before the first line feed are a line, and what follows them begins with the line feed, or there is nothing.
use Rattle.std.proofs.Common.{◌≡◌, ◌+◌, ◌<◌, ◌-◌, length, length-drop, ℕ, Bool, true, false, not, cond, List, [], ◌∷◌, ◌++◌, take, drop, suc, refl, arith, ap, sym, ◌∙◌, append-nil}
use Rattle.std.specs.Prelude.{◌==◌}
use Rattle.std.specs.List.{prefix_len}
use Rattle.std.proofs.lemmas.List.{take-append-drop, take_all}
use Rattle.std.proofs.Math.ListN.{drop_of_length-le}
use Rattle.sv_lines.proofs.back.Goes.{is_quiet_byte, Quiet}
use Rattle.sv_lines.proofs.read.Decided.{number_same}

take_one_more : (byte : ℕ) (count : ℕ) (text : List ℕ) → take (1 + count) (byte ∷ text) ≡ byte ∷ take count text
take_one_more byte count text = let more : 1 + count ≡ suc count = omega arith in rw more refl

drop_one_more : (byte : ℕ) (count : ℕ) (text : List ℕ) → drop (1 + count) (byte ∷ text) ≡ drop count text
drop_one_more byte count text = let more : 1 + count ≡ suc count = omega arith in rw more refl

front_by : (byte : ℕ) (text : List ℕ) (here : Bool) → is_quiet_byte byte ≡ here → Quiet (take (prefix_len is_quiet_byte text) text)
    → Quiet (take (cond here (1 + prefix_len is_quiet_byte text) 0) (byte ∷ text))
front_by byte text true is later = rw (take_one_more byte (prefix_len is_quiet_byte text) text) (rw is later)
front_by byte text false is later = refl

pub front_is_quiet : (text : List ℕ) → Quiet (take (prefix_len is_quiet_byte text) text)
front_is_quiet [] = refl
front_is_quiet (byte ∷ text) = front_by byte text (is_quiet_byte byte) refl (front_is_quiet text)

feed_by : (byte : ℕ) (text : List ℕ) (here : Bool) (first : ℕ) (rest : List ℕ) → is_quiet_byte byte ≡ here
    → (drop (prefix_len is_quiet_byte text) text ≡ first ∷ rest → first ≡ 10)
    → drop (cond here (1 + prefix_len is_quiet_byte text) 0) (byte ∷ text) ≡ first ∷ rest → first ≡ 10
feed_by byte text true first rest is later e = later (sym (drop_one_more byte (prefix_len is_quiet_byte text) text) ∙ e)
feed_by byte text false first rest is later e = let same : byte ≡ first = cc in sym same ∙ number_same byte 10 (is_feed (byte == 10) refl is)
  where
    is_feed : (there : Bool) → (byte == 10) ≡ there → not there ≡ false → (byte == 10) ≡ true
    is_feed true known none = known
    is_feed false known none = absurd cc

pub feed_follows : (text : List ℕ) (first : ℕ) (rest : List ℕ) → drop (prefix_len is_quiet_byte text) text ≡ first ∷ rest → first ≡ 10
feed_follows [] first rest e = absurd cc
feed_follows (byte ∷ text) first rest e = feed_by byte text (is_quiet_byte byte) first rest refl (feed_follows text first rest) e

-- a line, with what is left behind its line feed
line_by : (text front whole : List ℕ) → front ≡ take (prefix_len is_quiet_byte text) text → whole ≡ drop (prefix_len is_quiet_byte text) text → 0 < length whole
    → text ≡ front ++ (10 ∷ drop 1 whole)
line_by text front [] is_front is_rest some = absurd (omega (arith, some))
line_by text front (first ∷ rest) is_front is_rest some =
    let ten = feed_follows text first rest (sym is_rest) in
    let whole = take-append-drop (prefix_len is_quiet_byte text) text in
    rw is_front (rw (← ten) (rw is_rest (sym whole)))

pub line_joined : (text front whole : List ℕ) (count : ℕ) → count ≡ prefix_len is_quiet_byte text → front ≡ take count text → whole ≡ drop count text → count < length text
    → text ≡ front ++ (10 ∷ drop 1 whole)
line_joined text front whole count is is_front is_rest some =
    line_by text front whole (rw (← is) is_front) (rw (← is) is_rest) (let long = ap length is_rest in let left = length-drop count text in omega (arith, long, left, some))

pub line_quiet : (text front : List ℕ) (count : ℕ) → count ≡ prefix_len is_quiet_byte text → front ≡ take count text → Quiet front
line_quiet text front count is is_front = rw is_front (rw is (front_is_quiet text))

-- as the code cuts it: the rest is taken to its end
pub line_found : (text front whole : List ℕ) (count : ℕ) → count ≡ prefix_len is_quiet_byte text → front ≡ take count text → whole ≡ drop count text → count < length text
    → Quiet front × (text ≡ front ++ (10 ∷ take (length whole - 1) (drop 1 whole)))
line_found text front whole count is is_front is_rest some =
    let left = length-drop 1 whole in
    let all = take_all (length whole - 1) (drop 1 whole) (omega (arith, left)) in
    (line_quiet text front count is is_front, rw all (line_joined text front whole count is is_front is_rest some))

-- no line feed is left
pub piece_quiet : (text : List ℕ) (count : ℕ) → count ≡ prefix_len is_quiet_byte text → count ≡ length text → Quiet text
piece_quiet text count is all =
    let whole = take-append-drop count text in
    let none : drop count text ≡ [] = drop_of_length-le text (omega (arith, all)) in
    let same : take count text ≡ text = (sym (append-nil (take count text)) ∙ ap (λ (rest : List ℕ). take count text ++ rest) (sym none)) ∙ whole in
    rw (← same) (rw is (front_is_quiet text))
