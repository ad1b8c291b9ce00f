-- The ports of a process in which no check fails: at most 64, each with good names and a width within the limits, no
-- pair of endpoint and message twice, and each life within the limits or up to another port of the same endpoint.
--
-- The ports of an endpoint stand together, from the number `base` on, as many as its class has messages; so the
-- message of the number i is the port of the number base + i.
use Rattle.std.proofs.Common.{◌≡◌, ◌∙◌, ℕ, ◌+◌, ◌<◌, ◌≤◌, inl, inr, arith, refl, sym, ap, subst, Bool, true, false, not, ◌&&◌, ◌==◌, nat_lt, List, [], ◌∷◌, ◌++◌, length, map, bytes_eq, zero, suc}
use Rattle.std.proofs.lemmas.Bool.Decides.{nat_tests}
use Rattle.std.proofs.lemmas.List.{append_assoc, length-append, length-map}
use Rattle.anvil_lexer.specs.GoodName.{is_good_name}
use Rattle.anvil_tree.specs.declared.file.Endpoint.{Endpoint}
use Rattle.anvil_tree.specs.Tree.{Name}
use Rattle.core_term.specs.Limits.{most_ports}
use Rattle.core_term.specs.Lists.{Has}
use Rattle.core_term.specs.Process.{LifeEnd, Port, Process, nth_port, endpoint_of}
use Rattle.core_term.specs.Sized.{end_fits, life_fits, lives_fit, port_fits, is_same_port}
use Rattle.channel_classes.specs.declared.message.ClassLife.{ClassLife}
use Rattle.channel_classes.specs.declared.message.ClassLife.TheVariants as life
use Rattle.channel_classes.specs.declared.message.ClassMessage.{ClassMessage}
use Rattle.channel_classes.specs.Classes.{Class}
use Rattle.core_file.specs.Refused.{is_width}
use Rattle.core_file.specs.CoreProcess.{messages_in, life_of, port_of, ports_of}
use Rattle.core_file.proofs.Apart.{both_true, first_true, second_true, false_not, never_true, name_same, names_turned, has_either, has_map, AllApart, AllNew, apart_both, apart_map, new_apart}
use Rattle.core_file.proofs.ClassFits.{LifeFits, MessagesFit, is_same_message, ClassesFit, messages_in_fit}
use Rattle.core_file.proofs.ProcessHeld.{EndpointsHeld}

-- How many.

pub few_ports : (classes : List Class) (before : List Name) (base : ℕ) (endpoints : List Endpoint)
    → EndpointsHeld classes before base endpoints → base ≤ most_ports
    → base + length (ports_of classes base endpoints) ≤ most_ports
few_ports classes before base [] held few = omega arith
few_ports classes before base (endpoint ∷ endpoints) held few =
    let messages = messages_in classes endpoint.class in
    let next = base + length messages in
    let count = held.3 in
    let within : next ≤ most_ports = grind (arith, nat_tests) in
    let rest = few_ports classes (before ++ (endpoint.name ∷ [])) next endpoints held.4 within in
    let both = length-append (map (port_of endpoint base) messages) (ports_of classes next endpoints) in
    let own = length-map messages (port_of endpoint base) in
    omega arith

-- Names and widths.

message_fits : (count index : ℕ) (messages : List ClassMessage) → MessagesFit count index messages → (message : ClassMessage)
    → Has messages message
    → (is_good_name message.name ≡ true) × (is_width message.width ≡ true)
message_fits count index [] fit message has = elim has [ ]
message_fits count index (first ∷ messages) fit message (inl here) =
    (ap (λ (m : ClassMessage). is_good_name m.name) here ∙ fit.0.0, ap (λ (m : ClassMessage). is_width m.width) here ∙ fit.0.1)
message_fits count index (first ∷ messages) fit message (inr has) = message_fits count (index + 1) messages fit.1 message has

abbrev pub names_of : List Endpoint → List Name
names_of endpoints = map (λ (endpoint : Endpoint). endpoint.name) endpoints

-- each port has good names and a width within the limits, and belongs to one of the endpoints
pub port_held : (classes : List Class) (before : List Name) (base : ℕ) (endpoints : List Endpoint) → ClassesFit classes
    → EndpointsHeld classes before base endpoints
    → (port : Port) → Has (ports_of classes base endpoints) port → (port_fits port ≡ true)
    × Has (names_of endpoints) port.endpoint
port_held classes before base [] fit held port has = elim has [ ]
port_held classes before base (endpoint ∷ endpoints) fit held port has =
    let messages = messages_in classes endpoint.class in
    elim (has_either (map (port_of endpoint base) messages) (ports_of classes (base + length messages) endpoints) port has) [
      | inl own ↦
          let found = has_map (port_of endpoint base) messages port own in
          let message =
          message_fits (length messages) 0 messages (messages_in_fit classes endpoint.class fit).each found.0 found.1 in (
            ap port_fits found.2 ∙ both_true _ _ message.1 (both_true _ _ held.0 message.0),
            inl (ap (λ (port : Port). port.endpoint) found.2),
          )
      | inr later ↦
          let rest = port_held classes (before
          ++ (endpoint.name ∷ [])) (base + length messages) endpoints fit held.4 port later in
          (rest.0, inr rest.1)
    ]

endpoints_new : (classes : List Class) (before : List Name) (base : ℕ) (endpoints : List Endpoint)
    → EndpointsHeld classes before base endpoints → AllNew bytes_eq before (names_of endpoints)
endpoints_new classes before base [] held = tt
endpoints_new classes before base (endpoint ∷ endpoints) held = (
  held.1,
  endpoints_new classes (before
      ++ (endpoint.name ∷ [])) (base + length (messages_in classes endpoint.class)) endpoints held.4,
)

pub endpoints_apart : (classes : List Class) (base : ℕ) (endpoints : List Endpoint) → EndpointsHeld classes [] base endpoints
    → AllApart bytes_eq (names_of endpoints)
endpoints_apart classes base endpoints held =
    new_apart bytes_eq names_turned [] (names_of endpoints) (endpoints_new classes [] base endpoints held)

second_false : (one other : Bool) → other ≡ false → (one && other) ≡ false
second_false true other is = is
second_false false other is = refl

-- no pair of endpoint and message stands twice
pub ports_apart : (classes : List Class) (before : List Name) (base : ℕ) (endpoints : List Endpoint) → ClassesFit classes
    → EndpointsHeld classes before base endpoints
    → AllApart bytes_eq (names_of endpoints) → AllApart is_same_port (ports_of classes base endpoints)
ports_apart classes before base [] fit held apart = tt
ports_apart classes before base (endpoint ∷ endpoints) fit held apart =
    let messages = messages_in classes endpoint.class in
    let behind = before ++ (endpoint.name ∷ []) in
    let next = base + length messages in
    apart_both is_same_port (map (port_of endpoint base) messages) (ports_of classes next endpoints)
    (apart_map (port_of endpoint base) is_same_message is_same_port messages
    (λ one other same. second_false (bytes_eq endpoint.name endpoint.name) (bytes_eq one.name other.name) same) (messages_in_fit classes endpoint.class fit).apart)
    (ports_apart classes behind next endpoints fit held.4 apart.1)
    (λ one other own later.
    let found = has_map (port_of endpoint base) messages one own in
    let name = port_held classes behind next endpoints fit held.4 other later in
    let differ : bytes_eq one.endpoint other.endpoint ≡ false =
    ap (λ (port : Port). bytes_eq port.endpoint other.endpoint) found.2 ∙ apart.0 other.endpoint name.1 in
    rw differ refl)

-- Lives.

lives_both : (plain : Process) (number : ℕ) (ports others : List Port) → lives_fit plain number ports ≡ true
    → lives_fit plain (number + length ports) others ≡ true
    → lives_fit plain number (ports ++ others) ≡ true
lives_both plain number [] others lives also = subst (λ n. lives_fit plain n others ≡ true) (omega arith) also
lives_both plain number (port ∷ ports) others lives also =
    both_true _ _ (first_true (life_fits plain number port.life) _ lives)
    (lives_both plain (number + 1) ports others (second_true (life_fits plain number port.life) _ lives) (subst (λ n. lives_fit plain n others ≡ true) (omega arith) also))

-- the ports of the numbers from `base` on, so many, are those of the endpoint
pub record IsBlock (plain : Process) (endpoint : Name) (base count : ℕ) : Type 0 where
  pub within : base + count ≤ length plain.ports
  pub own : (index : ℕ) → index < count → endpoint_of plain (base + index) ≡ endpoint

other_number : (base message index : ℕ) → (message ≡ index → ⊥) → not (base + message == base + index) ≡ true
other_number base message index differ =
    false_not (base + message == base + index) (never_true (base + message == base + index) (λ same. let equal : base + message ≡ base + index = grind (arith, nat_tests) in differ (omega arith)))

one_end : (plain : Process) (number : ℕ) (end : LifeEnd) → end_fits plain number end ≡ true
    → life_fits plain number (end ∷ []) ≡ true
one_end plain number end fits = rw fits refl

life_held : (plain : Process) (endpoint : Name) (base count index : ℕ) (written : ClassLife)
    → IsBlock plain endpoint base count → index < count → LifeFits count index written
    → life_fits plain (base + index) (life_of base written ∷ []) ≡ true
life_held plain endpoint base count index (life.Cycles cycles) block inside fits =
    one_end plain (base + index) (life_of base (life.Cycles cycles)) fits
life_held plain endpoint base count index (life.Until message) block inside fits =
    let within = block.within in
    let ends = fits.0 in
    let number : base + message < length plain.ports = omega arith in
    let known : nat_lt (base + message) (length plain.ports) ≡ true = grind (arith, nat_tests) in
    one_end plain (base + index) (life_of base (life.Until message)) (both_true _ _ known (both_true _ _ (other_number base message index fits.1)
    (name_same (endpoint_of plain (base + message)) (endpoint_of plain (base + index)) (block.own message fits.0
    ∙ sym (block.own index inside)))))

block_lives : (plain : Process) (endpoint : Endpoint) (base count index : ℕ) (messages : List ClassMessage)
    → IsBlock plain endpoint.name base count → index + length messages ≡ count
    → MessagesFit count index messages → lives_fit plain (base + index) (map (port_of endpoint base) messages) ≡ true
block_lives plain endpoint base count index [] block counted fit = refl
block_lives plain endpoint base count index (message ∷ messages) block counted fit =
    both_true _ _ (life_held plain endpoint.name base count index message.life block (omega arith) fit.0.2)
    (subst (λ n. lives_fit plain n (map (port_of endpoint base) messages) ≡ true) (omega arith)
    (block_lives plain endpoint base count (index + 1) messages block (omega arith) fit.1))

nth_behind : (earlier ports : List Port) (base index : ℕ) → base ≡ length earlier
    → nth_port (earlier ++ ports) (base + index) ≡ nth_port ports index
nth_behind [] ports base index at = let same : base + index ≡ index = omega arith in ap (nth_port ports) same
nth_behind (port ∷ earlier) ports base index at =
    let same : base + index ≡ suc (length earlier + index) = omega arith in
    ap (nth_port (port ∷ (earlier ++ ports))) same ∙ nth_behind earlier ports (length earlier) index refl

nth_own : (endpoint : Endpoint) (base : ℕ) (messages : List ClassMessage) (others : List Port) (index : ℕ)
    → index < length messages
    → (nth_port (map (port_of endpoint base) messages ++ others) index).endpoint ≡ endpoint.name
nth_own endpoint base [] others index inside = absurd (omega arith)
nth_own endpoint base (message ∷ messages) others zero inside = refl
nth_own endpoint base (message ∷ messages) others (suc index) inside = nth_own endpoint base messages others index (omega arith)

-- the lives of the ports from the number `base` on
pub lives_held : (classes : List Class) (plain : Process) (earlier : List Port) (base : ℕ) (endpoints : List Endpoint)
    → ClassesFit classes → base ≡ length earlier
    → plain.ports ≡ earlier ++ ports_of classes base endpoints → lives_fit plain base (ports_of classes base endpoints) ≡ true
lives_held classes plain earlier base [] fit at joined = refl
lives_held classes plain earlier base (endpoint ∷ endpoints) fit at joined =
    let messages = messages_in classes endpoint.class in
    let own = map (port_of endpoint base) messages in
    let next = base + length messages in
    let rest = ports_of classes next endpoints in
    let counted = length-map messages (port_of endpoint base) in
    let whole : length plain.ports ≡ length (earlier ++ (own ++ rest)) = ap length joined in
    let outer = length-append earlier (own ++ rest) in
    let inner = length-append own rest in
    let with_own = length-append earlier own in
    let block : IsBlock plain endpoint.name base (length messages) = record {
      within = omega arith;
      own = λ index inside.
          ap (λ ports. (nth_port ports (base + index)).endpoint) joined
          ∙ ap (λ (port : Port). port.endpoint) (nth_behind earlier (own ++ rest) base index at)
          ∙ nth_own endpoint base messages rest index inside;
    } in
    let joined_too : plain.ports ≡ (earlier ++ own) ++ rest = joined ∙ sym (append_assoc earlier own rest) in
    let here : base + 0 ≡ base = omega arith in
    let there : next ≡ base + length own = omega arith in
    lives_both plain base own rest
    (subst (λ n. lives_fit plain n own ≡ true) here
    (block_lives plain endpoint base (length messages) 0 messages block (omega arith) (messages_in_fit classes endpoint.class fit).each))
    (subst (λ n. lives_fit plain n rest ≡ true) there (lives_held classes plain (earlier
    ++ own) next endpoints fit (omega arith) joined_too))
