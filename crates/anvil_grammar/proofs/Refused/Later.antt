-- Where no refusal of some tokens can stand: before the token at which the limited reading stops. The tokens before it begin a file, so
-- none of them is unexpected; their brackets stay within the limit, so none of them is too deep; and each file that they begin has no
-- thing past the most among their own things, so a thing that every such file has past it stands behind them. In a file that is
-- completed with late tokens the later things stand at the token or behind it, or at a `(` that stands just before it.
use Rattle.std.proofs.Common.{◌≡◌, ◌≤◌, ◌<◌, ◌⊎◌, inl, inr, ℕ, List, [], ◌∷◌, ◌++◌, ◌∙◌, sym, subst, ap, arith, append_assoc}
use Rattle.anvil_lexer.specs.declared.token.Token.{Token}
use Rattle.anvil_lexer.specs.TokenText.{ArePlacesRising}
use Rattle.anvil_tree.specs.Tree.{File}
use Rattle.anvil_grammar.specs.declared.error.Counted.{Counted}
use Rattle.anvil_grammar.specs.Grammar.{IsFile}
use Rattle.anvil_grammar.specs.Begun.{Begin, HasOnePast}
use Rattle.anvil_grammar.specs.Limits.{most_open, open_after, open_brackets, begun_in}
use Rattle.anvil_grammar.specs.State.{State, start}
use Rattle.anvil_grammar.specs.Step.{walk, Walk, stands}
use Rattle.anvil_grammar.specs.Refusal.{BeginsFile, IsUnexpected, IsTooDeep, IsTooMany}
use Rattle.anvil_grammar.proofs.Refused.Refusals.{token_joined, open_joined}
use Rattle.anvil_grammar.proofs.Walk.Joined.{walk_from}
use Rattle.anvil_grammar.proofs.Limited.Counts.{Numbers, AllFit}
use Rattle.anvil_grammar.proofs.Limited.Walked.{AllShallow, shallow_front}
use Rattle.anvil_grammar.proofs.Places.Begun.{AllAt}
use Rattle.anvil_grammar.proofs.Places.Walked.{TokensAt, Closes, walk_placed, both_at}
use Rattle.anvil_grammar.proofs.Walk.Completed.{Facts, file_stands, viable, completes}
use Rattle.anvil_grammar.proofs.Refused.Cuts.{Meets, sooner, there, later, meets, Cut, within, beyond, cut, rising_behind, rising_past, tokens_behind, tokens_front, past_placed}

-- before anything
abbrev pub none : Numbers
none kind = 0

-- a front of tokens that begin a file begins one
pub begins_front : (front more : List Token) → BeginsFile (front ++ more) → BeginsFile front
begins_front front more begins = (more ++ begins.0, begins.1, subst (λ tokens. IsFile tokens begins.1) (append_assoc front more begins.0) begins.2)

-- a thing past the most in each file of the tokens
pub past_in : (tokens whole : List Token) (file : File) (kind : Counted) (place : ℕ) → tokens ≡ whole
    → ((is : IsFile tokens file) → HasOnePast kind place (begun_in is)) → (is : IsFile whole file) → HasOnePast kind place (begun_in is)
past_in tokens whole file kind place same each = subst (λ w. (is : IsFile w file) → HasOnePast kind place (begun_in is)) same each

module _ (facts : Facts) (front : List Token) (token : Token) (rest : List Token) (begun : List Begin) (state : State)
    (walked : walk start front ≡ record { begun = begun; stop = stands state }) where
  unexpected_sooner : (middle before : List Token) (other : Token) → front ≡ before ++ (other ∷ middle) → BeginsFile (before ++ (other ∷ []))
  unexpected_sooner middle before other joined =
      begins_front (before ++ (other ∷ [])) middle (subst BeginsFile (joined ∙ token_joined before other middle) (viable facts front begun state walked))

  pub unexpected_later : ArePlacesRising (front ++ (token ∷ rest)) → (at : ℕ) → IsUnexpected (front ++ (token ∷ rest)) at
      → (token.at < at) ⊎ ((at ≡ token.at) × (BeginsFile (front ++ (token ∷ [])) → ⊥))
  unexpected_later rising at refused = by_meeting (meets front token rest refused.before refused.token refused.stands.behind refused.stands.joined)
    where
      by_meeting : Meets front token rest refused.before refused.token refused.stands.behind → (token.at < at) ⊎ ((at ≡ token.at) × (BeginsFile (front ++ (token ∷ [])) → ⊥))
      by_meeting (sooner middle joined) = absurd (refused.ends (unexpected_sooner middle refused.before refused.token joined))
      by_meeting (there fronts tokens) =
          inr (
            sym refused.placed ∙ ap (λ (t : Token). t.at) tokens,
            subst (λ t. BeginsFile (front ++ (t ∷ [])) → ⊥) tokens (subst (λ f. BeginsFile (f ++ (refused.token ∷ [])) → ⊥) fronts refused.ends),
          )
      by_meeting (later middle joined) =
          let less = rising_past middle token refused.token refused.stands.behind (subst (λ r. ArePlacesRising (token ∷ r)) joined (rising_behind front (token ∷ rest) rising)) in
          let placed = refused.placed in
          inl (omega arith)

  deep_sooner : AllShallow 0 front → (middle before : List Token) (other : Token) → front ≡ before ++ (other ∷ middle) → open_brackets 0 before ≡ most_open
      → most_open < open_after most_open other.kind → ⊥
  deep_sooner shallow middle before other joined full opens =
      let within_limit = shallow_front (before ++ (other ∷ [])) middle 0 (subst (AllShallow 0) (joined ∙ token_joined before other middle) shallow) in
      let brackets = open_joined before (other ∷ []) 0 in
      let deep : open_after (open_brackets 0 before) other.kind ≡ open_after most_open other.kind = ap (λ depth. open_after depth other.kind) full in
      omega arith

  pub deep_later : ArePlacesRising (front ++ (token ∷ rest)) → AllShallow 0 front → (at : ℕ) → IsTooDeep (front ++ (token ∷ rest)) at
      → (token.at < at) ⊎ ((at ≡ token.at) × (open_brackets 0 front ≡ most_open) × (most_open < open_after most_open token.kind))
  deep_later rising shallow at refused = by_meeting (meets front token rest refused.before refused.token refused.stands.behind refused.stands.joined)
    where
      by_meeting : Meets front token rest refused.before refused.token refused.stands.behind
          → (token.at < at) ⊎ ((at ≡ token.at) × (open_brackets 0 front ≡ most_open) × (most_open < open_after most_open token.kind))
      by_meeting (sooner middle joined) = absurd (deep_sooner shallow middle refused.before refused.token joined refused.full refused.opens)
      by_meeting (there fronts tokens) =
          inr (
            sym refused.placed ∙ ap (λ (t : Token). t.at) tokens,
            subst (λ f. open_brackets 0 f ≡ most_open) fronts refused.full,
            subst (λ (t : Token). most_open < open_after most_open t.kind) tokens refused.opens,
          )
      by_meeting (later middle joined) =
          let less = rising_past middle token refused.token refused.stands.behind (subst (λ r. ArePlacesRising (token ∷ r)) joined (rising_behind front (token ∷ rest) rising)) in
          let placed = refused.placed in
          inl (omega arith)

  module _ (fit : AllFit none begun) (bound : ℕ) (kind : Counted) (at : ℕ) where
    past_bound : (file : File) (whole : List Token) (is : IsFile whole file) (others : List Begin) → begun_in is ≡ begun ++ others → AllAt (λ place. bound ≤ place) others
        → HasOnePast kind at (begun_in is) → bound ≤ at
    past_bound file whole is others joined all past =
        past_placed (λ place. bound ≤ place) begun others past.before past.after none (record { kind = kind; at = at }) fit all (sym joined ∙ past.joined) past.full

    many_within : (tokens : List Token) (refused : IsTooMany tokens kind at) (middle : List Token) → front ≡ refused.front ++ middle → bound ≤ at
    many_within tokens refused middle joined =
        let one = completes facts bound front begun state walked in
        let whole : refused.front ++ (middle ++ one.more) ≡ front ++ one.more =
        sym (append_assoc refused.front middle one.more) ∙ ap (λ f. f ++ one.more) (sym joined) in
        past_bound one.file (front ++ one.more) one.is one.others one.joined one.later
        (past_in (refused.front ++ (middle ++ one.more)) (front ++ one.more) one.file kind at whole (refused.each (middle ++ one.more) one.file) one.is)

    many_beyond : (tokens : List Token) (refused : IsTooMany tokens kind at) (middle : List Token) → refused.front ≡ front ++ (token ∷ middle)
        → TokensAt (λ place. bound ≤ place) (token ∷ middle) → (BeginsFile (front ++ (token ∷ [])) → Closes (λ place. bound ≤ place) state (token ∷ []))
        → bound ≤ at
    many_beyond tokens refused middle joined all closes =
        let begins = begins_front (front ++ (token ∷ [])) middle (subst BeginsFile (joined ∙ token_joined front token middle) refused.goes_on) in
        let others = (walk state (token ∷ middle)).begun in
        let placed : AllAt (λ place. bound ≤ place) others = walk_placed (λ place. bound ≤ place) (token ∷ middle) state all (closes begins) in
        let after = file_stands facts refused.front refused.goes_on in
        let one = completes facts bound refused.front after.begun after.state after.walked in
        let both : after.begun ≡ begun ++ others =
        ap (λ (w : Walk). w.begun) (sym after.walked ∙ (ap (walk start) joined ∙ walk_from front (token ∷ middle) start state begun walked)) in
        past_bound one.file (refused.front ++ one.more) one.is (others ++ one.others)
        (one.joined ∙ (ap (λ b. b ++ one.others) both ∙ append_assoc begun others one.others))
        (both_at (λ place. bound ≤ place) others one.others placed one.later) (refused.each one.more one.file one.is)

    pub many_later : ArePlacesRising (front ++ (token ∷ rest)) → bound ≤ token.at → (BeginsFile (front ++ (token ∷ [])) → Closes (λ place. bound ≤ place) state (token ∷ []))
        → IsTooMany (front ++ (token ∷ rest)) kind at → bound ≤ at
    many_later rising less closes refused = by_cut (cut front token rest refused.front refused.behind refused.joined)
      where
        by_cut : Cut front token rest refused.front refused.behind → bound ≤ at
        by_cut (within middle joined) = many_within (front ++ (token ∷ rest)) refused middle joined
        by_cut (beyond middle joined left) =
            many_beyond (front ++ (token ∷ rest)) refused middle joined
            (tokens_front (λ place. bound ≤ place) (token ∷ middle) refused.behind
            (tokens_behind bound (middle ++ refused.behind) token (subst (λ r. ArePlacesRising (token ∷ r)) left (rising_behind front (token ∷ rest) rising)) less)) closes
