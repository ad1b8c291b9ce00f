-- Endpoints one after the other: what stands after some of them; the ports of one; and the messages that are found.
use Rattle.std.proofs.Common.{◌≡◌, ◌∙◌, ◌+◌, ◌<◌, ◌≤◌, ℕ, Bool, true, false, not, cond, ◌||◌, List, [], ◌∷◌, ◌++◌, None, Some, length, map, take, drop, get_or, refl, ap, sym, subst, inl, inr, arith, append_assoc, length-append, add-one, suc, zero}
use Rattle.std.specs.Prelude.{bytes_eq, position, slice_get, if◌then◌else◌}
use Rattle.std.specs.List.{AllByRecursion, list_any, position_or_len}
use Rattle.std.proofs.Math.Seq.{drop-cons}
use Rattle.std.proofs.lemmas.List.{append-nil, length-map, length-take-le, take_more}
use Rattle.anvil_tree.specs.declared.file.Endpoint.{Endpoint}
use Rattle.anvil_tree.specs.Tree.{Name}
use Rattle.core_term.specs.declared.process.CorePort.{CorePort}
use Rattle.core_term.specs.ProcessView as core
use Rattle.first_check.specs.Check.{first_refusal}
use Rattle.first_check.proofs.Walks.{passes, stops}
use Rattle.channel_classes.specs.Classes.{Class, has_name}
use Rattle.channel_classes.specs.declared.message.ClassMessage.{ClassMessage}
use Rattle.channel_classes.proofs.Found.{found, lost}
use Rattle.channel_classes.proofs.Table.{map_more}
use Rattle.core_file.specs.Scope.{is_among}
use Rattle.core_file.specs.CoreProcess.{messages_in, port_of, ports_of}
use Rattle.core_file.specs.ProcessChecks.{is_known_class, endpoint_checks, endpoints_checks}
use Rattle.core_file.specs.declared.error.NameErr.{NameErr}
use Rattle.width_check.specs.ReadEndpoints.{EndsWithin, EndpointRead, EndpointFails, EndpointsRead, EndpointsFail}

-- Messages that are found.

by_head : (known : Class) (classes : List Class) (name : Name) (place : ℕ) (messages : List ClassMessage) (here : Bool) → (here || list_any (has_name name) classes) ≡ true
    → place ≡ cond (not here) (1 + position_or_len (has_name name) classes) 0
    → slice_get (map (λ (k : Class). k.messages) (known ∷ classes)) place ≡ Some messages
    → (list_any (has_name name) classes ≡ true → slice_get (map (λ (k : Class). k.messages) classes) (position_or_len (has_name name) classes) ≡ Some messages
    → messages ≡ messages_in classes name)
    → messages ≡ (if here then known.messages else messages_in classes name)
by_head known classes name place messages true any is at later =
    let first = subst (λ n. slice_get (map (λ (k : Class). k.messages) (known ∷ classes)) n ≡ Some messages) is at in cc
by_head known classes name place messages false any is at later =
    let further : place ≡ suc (position_or_len (has_name name) classes) = omega arith in
    later any (subst (λ n. slice_get (map (λ (k : Class). k.messages) (known ∷ classes)) n ≡ Some messages) further at)

at_place : (classes : List Class) (name : Name) (place : ℕ) (messages : List ClassMessage) → list_any (has_name name) classes ≡ true
    → place ≡ position_or_len (has_name name) classes → slice_get (map (λ (known : Class). known.messages) classes) place ≡ Some messages
    → messages ≡ messages_in classes name
at_place [] name place messages any is at = absurd cc
at_place (known ∷ classes) name place messages any is at =
    by_head known classes name place messages (bytes_eq name known.name) any is at
    (λ more there. at_place classes name (position_or_len (has_name name) classes) messages more refl there)

pub record MessagesAre (classes : List Class) (name : Name) (messages : List ClassMessage) : Type 0 where
  pub known : is_known_class classes name ≡ true
  pub are : messages ≡ messages_in classes name

pub messages_are : (classes : List Class) (name : Name) (place : ℕ) (messages : List ClassMessage) → Some place ≡ position (has_name name) classes
    → slice_get (map (λ (known : Class). known.messages) classes) place ≡ Some messages → MessagesAre classes name messages
messages_are classes name place messages is at =
    let here = found (has_name name) classes place is in
    record { known = here.any; are = at_place classes name place messages here.any here.first at }

pub unknown_class : (classes : List Class) (name : Name) → None ≡ position (has_name name) classes → is_known_class classes name ≡ false
unknown_class classes name is = lost (has_name name) classes is

within_by : (here : Bool) (one other : List ClassMessage) → AllByRecursion EndsWithin one → AllByRecursion EndsWithin other → AllByRecursion EndsWithin (if here then one else other)
within_by true one other first second = first
within_by false one other first second = second

pub messages_within : (classes : List Class) (name : Name) → AllByRecursion (λ (known : Class). AllByRecursion EndsWithin known.messages) classes
    → AllByRecursion EndsWithin (messages_in classes name)
messages_within [] name within = tt
messages_within (known ∷ classes) name within =
    within_by (bytes_eq name known.name) known.messages (messages_in classes name) within.0 (messages_within classes name within.1)

-- The ports of one endpoint.

pub within_at : (messages : List ClassMessage) (index : ℕ) (message : ClassMessage) → AllByRecursion EndsWithin messages → index < length messages
    → message ≡ get_or messages index message → EndsWithin message
within_at [] index message within inside is = absurd (omega arith)
within_at (first ∷ messages) zero message within inside is = subst EndsWithin (sym is) within.0
within_at (first ∷ messages) (suc index) message within inside is = within_at messages index message within.1 (omega arith) is

pub one_port : (messages : List ClassMessage) (index : ℕ) (message : ClassMessage) (old ports : List CorePort) (endpoint : Endpoint) (base : ℕ) (made : CorePort)
    → index < length messages → message ≡ get_or messages index message
    → map core.port_of ports ≡ map core.port_of old ++ map (port_of endpoint base) (take index messages) → core.port_of made ≡ port_of endpoint base message
    → map core.port_of (ports ++ (made ∷ [])) ≡ map core.port_of old ++ map (port_of endpoint base) (take (index + 1) messages)
one_port messages index message old ports endpoint base made inside is so_far same =
    map_more core.port_of ports made
    ∙ ap (λ l. l ++ (core.port_of made ∷ [])) so_far
    ∙ ap (λ p. (map core.port_of old ++ map (port_of endpoint base) (take index messages)) ++ (p ∷ [])) same
    ∙ append_assoc (map core.port_of old) (map (port_of endpoint base) (take index messages)) (port_of endpoint base message ∷ [])
    ∙ ap (λ l. map core.port_of old ++ l)
    (sym (map_more (port_of endpoint base) (take index messages) message)
    ∙ ap (map (port_of endpoint base)) (sym (take_more messages index message inside ∙ ap (λ m. take index messages ++ (m ∷ [])) (sym is))))

pub so_many : (messages : List ClassMessage) (index : ℕ) (old ports : List CorePort) (endpoint : Endpoint) (base : ℕ) → index ≤ length messages
    → map core.port_of ports ≡ map core.port_of old ++ map (port_of endpoint base) (take index messages) → length ports ≡ length old + index
so_many messages index old ports endpoint base inside so_far =
    let lengths = ap length so_far in
    let one = length-map ports core.port_of in
    let two = length-append (map core.port_of old) (map (port_of endpoint base) (take index messages)) in
    let three = length-map old core.port_of in
    let four = length-map (take index messages) (port_of endpoint base) in
    let five = length-take-le index messages inside in
    omega arith

-- Endpoints one after the other.

abbrev pub name_of : Endpoint → Name
name_of endpoint = endpoint.name

pub record Standing (classes : List Class) (all : List Endpoint) (names : List Name) (ports : List CorePort) (rest : List Endpoint) : Type 0 where
  pub refused : first_refusal (endpoints_checks classes [] 0 all) ≡ first_refusal (endpoints_checks classes names (length ports) rest)
  pub named : map name_of all ≡ names ++ map name_of rest
  pub same : ports_of classes 0 all ≡ map core.port_of ports ++ ports_of classes (length ports) rest

pub begins : (classes : List Class) (all : List Endpoint) (names : List Name) (ports : List CorePort) → names ≡ [] → ports ≡ [] → Standing classes all names ports all
begins classes all names ports none no_ports = rw (none, no_ports) (record { refused = refl; named = refl; same = refl })

fresh_key : (names : List Name) (name : Name) → is_among names name ≡ false → (if list_any (bytes_eq name) names then names else names ++ (name ∷ [])) ≡ names ++ (name ∷ [])
fresh_key names name fresh = rw fresh refl

pub past : (classes : List Class) (all : List Endpoint) (names more_names : List Name) (ports more : List CorePort) (endpoint : Endpoint) (rest : List Endpoint)
    → Standing classes all names ports (endpoint ∷ rest) → EndpointRead classes names ports endpoint more
    → more_names ≡ (if list_any (bytes_eq endpoint.name) names then names else names ++ (endpoint.name ∷ [])) → Standing classes all more_names more rest
past classes all names more_names ports more endpoint rest s read keys =
    let messages = messages_in classes endpoint.class in
    let count : length more ≡ length ports + length messages =
    (let lengths = ap length read.same in
    let one = length-map more core.port_of in
    let two = length-append (map core.port_of ports) (map (port_of endpoint (length ports)) messages) in
    let three = length-map ports core.port_of in
    let four = length-map messages (port_of endpoint (length ports)) in
    omega arith) in
    rw (keys ∙ fresh_key names endpoint.name read.fresh)
    (record {
      refused = s.refused ∙ passes (endpoint_checks classes names (length ports) endpoint) (endpoints_checks classes (names ++ (endpoint.name ∷ [])) (length ports + length (messages_in classes endpoint.class)) rest) read.passes
          ∙ ap (λ n. first_refusal (endpoints_checks classes (names ++ (endpoint.name ∷ [])) n rest)) (sym count);
      named = s.named ∙ sym (append_assoc names (endpoint.name ∷ []) (map name_of rest));
      same = s.same ∙ sym (append_assoc (map core.port_of ports) (map (port_of endpoint (length ports)) messages) (ports_of classes (length ports + length messages) rest)) ∙ ap (λ l. l ++ ports_of classes (length ports + length messages) rest) (sym read.same)
          ∙ ap (λ n. map core.port_of more ++ ports_of classes n rest) (sym count);
    })

pub one_fails : (classes : List Class) (all : List Endpoint) (names : List Name) (ports : List CorePort) (endpoint : Endpoint) (rest : List Endpoint) (fault : NameErr)
    → Standing classes all names ports (endpoint ∷ rest) → EndpointFails classes names (length ports) endpoint fault → EndpointsFail classes all fault
one_fails classes all names ports endpoint rest fault s fails = record {
  why = elim (fails.why) [ inl none ↦ inl none | inr some ↦ inr (s.refused ∙ stops (endpoint_checks classes names (length ports) endpoint) (endpoints_checks classes (names ++ (endpoint.name ∷ [])) (length ports + length (messages_in classes endpoint.class)) rest) fault some) ];
}

pub next : (classes : List Class) (all : List Endpoint) (names : List Name) (ports : List CorePort) (index : ℕ) (endpoint : Endpoint) → index < length all
    → endpoint ≡ get_or all index endpoint → Standing classes all names ports (drop index all) → Standing classes all names ports (endpoint ∷ drop (index + 1) all)
next classes all names ports index endpoint inside is standing =
    subst (Standing classes all names ports) (drop-cons all index endpoint inside ∙ rw (sym is) (ap (λ n. endpoint ∷ drop n all) (sym (add-one index)))) standing

drop_all : (all : List Endpoint) (index : ℕ) → length all ≤ index → drop index all ≡ []
drop_all [] zero behind = refl
drop_all [] (suc index) behind = refl
drop_all (first ∷ all) zero behind = absurd (omega arith)
drop_all (first ∷ all) (suc index) behind = drop_all all index (omega arith)

pub ends : (classes : List Class) (all : List Endpoint) (names : List Name) (ports : List CorePort) (index : ℕ) → length all ≤ index
    → Standing classes all names ports (drop index all) → EndpointsRead classes all names ports
ends classes all names ports index behind standing =
    let s = subst (Standing classes all names ports) (drop_all all index behind) standing in
    record {
      passes = s.refused;
      named = sym (s.named ∙ append-nil names);
      same = sym (s.same ∙ append-nil (map core.port_of ports));
    }
