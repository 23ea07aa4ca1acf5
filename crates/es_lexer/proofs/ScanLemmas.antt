-- How far a text is read: what is so far read, and what each look adds.
use Rattle.std.proofs.Common.{◌≡◌, ℕ, ◌+◌, ◌-◌, ◌<◌, ◌≤◌, Bool, true, false, if◌then◌else◌, List, [], ◌∷◌, ◌++◌, length, take, drop, get_or, Option, Some, None, Result, Err, slice_range, IsUtf8, IsCharBoundary, refl, sym, ◌∙◌, ap, subst, arith, length-append, length-drop, append_assoc, append-nil, drop-drop, drop_at, take_at, get_or-drop, ◌⊎◌, inl, inr}
use Rattle.std.specs.Prelude.{reverse}
use Rattle.std.proofs.lemmas.List.{get_or_at, take_rest}
use Rattle.std.proofs.lemmas.Str.{IsCharBoundary-before_ascii, IsCharBoundary-after_ascii, IsCharBoundary-end}
use Rattle.es_lexer.specs.declared.bracket.BracketKind.{BracketKind}
use Rattle.es_lexer.specs.declared.bracket.OpenBracket.{OpenBracket}
use Rattle.es_lexer.specs.declared.bracket.Role.{Role}
use Rattle.es_lexer.specs.declared.bytes.First.TheVariants.{Blank, LineEnd}
use Rattle.es_lexer.specs.declared.goal.Goal.{Goal}
use Rattle.es_lexer.specs.declared.goal.State.{State}
use Rattle.es_lexer.specs.declared.look.Look.{Look}
use Rattle.es_lexer.specs.declared.look.Look.TheVariants as look
use Rattle.es_token.specs.declared.token.Token.{Token}
use Rattle.es_token.specs.declared.token.Comment.{Comment}
use Rattle.es_token.specs.declared.token.TokenKind.{TokenKind}
use Rattle.es_token.specs.declared.token.CommentKind.{CommentKind}
use Rattle.es_token.specs.declared.token.CommentKind.TheVariants.{Line, Block}
use Rattle.es_token.specs.declared.token.Lexed.{Lexed}
use Rattle.es_lexer.specs.declared.error.LexicalKind.{LexicalKind}
use Rattle.es_lexer.specs.declared.error.LexicalError.{LexicalError}
use Rattle.es_lexer.specs.declared.error.LexError.{LexError}
use Rattle.es_lexer.specs.declared.error.LexError.TheVariants.{Lexical}
use Rattle.es_lexer.specs.Bytes.{has_line_end, is_blank, first_of}
use Rattle.es_lexer.specs.Brackets.{role_of}
use Rattle.es_lexer.specs.Goal.{goal_of, goal_in, state_of, is_front, token_state, blank_state, line_state, comment_state, after_for, headed, divides, member}
use Rattle.es_lexer.specs.Pieces.{Piece, blank, line_end, comment, token, Open, spelling, pieces_text, comment_spelling, place_of, count_of, behind, is_behind, line_since, open_at, bracket_of, closer_at, closer_by}
use Rattle.es_lexer.specs.Readable.{IsByte, IsWideBlank, IsWideLine, IsPiece, ArePieces}
use Rattle.es_lexer.specs.Reads.{Reads, tokens_of, comments_of, range_at}
use Rattle.es_lexer.specs.Stops.{Stops, Stuck}
use Rattle.es_lexer.specs.Look.{look_at, class_look, blanks_end}
use Rattle.es_lexer.specs.Scan as scan
use Rattle.es_lexer.specs.Scan.{HasCommentText, comment_at}
use Rattle.es_lexer.proofs.SpellingLemmas.{not_empty}
use Rattle.es_lexer.proofs.LineLemmas.{StartsChar, line_starts}
use Rattle.es_lexer.proofs.LookLemmas.{reading_of, Found, ended, piece, fault, look_finds}
use Rattle.es_lexer.proofs.StackLemmas as stack

-- pieces cut the text up to `after`, and these are their tokens and comments, and the pieces, the latest first
pub record Cut (x : List ℕ) (ts : List Token) (cs : List Comment) (after : List ℕ) (place : ℕ)
    (before : List Piece) : Type 0 where
  pub pieces : List Piece
  pub whole : x ≡ pieces_text pieces ++ after
  pub each : ArePieces [] pieces after
  pub place_is : place ≡ length (pieces_text pieces)
  pub tokens_are : ts ≡ tokens_of [] pieces
  pub comments_are : cs ≡ comments_of [] pieces
  pub behind_is : before ≡ behind [] pieces

-- the tokens so far, where brackets brackets have the partners that these pieces give them
unfoldable pub filled : List Piece → List Piece → List Token → List Token
filled before ps ts = stack.fill (stack.opens_of before) (λ d. closer_at d (count_of before) ps) ts

-- pieces of what is left go on with what is read so far
abbrev pub GoesOn : List ℕ → List Piece → ℕ → List Token → List Comment → Type 0
GoesOn x before at ts cs = (ps : List Piece) (after : List ℕ) → drop at x ≡ pieces_text ps ++ after
    → ArePieces before ps after
    → Cut x (filled before ps ts ++ tokens_of before ps) (cs ++ comments_of before ps) after
    (at + length (pieces_text ps))
    (behind before ps)

-- the text is read up to a place
pub record SoFar (x : List ℕ) (at : ℕ) (state : State) (brackets : List OpenBracket) (ts : List Token)
    (cs : List Comment) : Type 0 where
  pub within : at ≤ length x
  pub before : List Piece
  pub place : at ≡ place_of before
  pub state_is : state ≡ state_of before
  pub open_is : reverse brackets ≡ stack.opens_of before
  pub count_is : count_of before ≡ length ts
  pub goes : GoesOn x before at ts cs

pub so_far_start : (x : List ℕ) → SoFar x 0 (state_of []) [] [] []
unfolding filled stack.opens_of stack.fill count_of
so_far_start x = record {
  within = omega arith;
  before = [];
  place = refl;
  state_is = refl;
  open_is = refl;
  count_is = refl;
  goes = λ ps after w h. record {
    pieces = ps;
    whole = w;
    each = h;
    place_is = omega arith;
    tokens_are = refl;
    comments_are = refl;
    behind_is = refl;
  };
}

-- ---- one piece more
-- a piece at the place, and the text behind it
pub record Next (x : List ℕ) (before : List Piece) (at : ℕ) (p : Piece) : Type 0 where
  pub after : List ℕ
  pub cut : drop at x ≡ spelling p ++ after
  pub fits : IsPiece (goal_of before) p after

rest_is : (x s after : List ℕ) (at : ℕ) → drop at x ≡ s ++ after → drop (at + length s) x ≡ after
rest_is x s after at w = sym (drop-drop (length s) at x) ∙ (ap (drop (length s)) w ∙ drop_at s after (length s) refl)

ends_within : (x s after : List ℕ) (at : ℕ) → at ≤ length x → drop at x ≡ s ++ after → at + length s ≤ length x
ends_within x s after at h w =
    let e : length (drop at x) ≡ length (s ++ after) = ap length w in
    omega (arith, length-drop at x, length-append s after)

-- what goes on behind the piece goes on with it
goes_past : (x : List ℕ) (before : List Piece) (at : ℕ) (ts : List Token) (cs : List Comment) (p : Piece)
    → GoesOn x before at ts cs → (n : Next x before at p) → (ps : List Piece) (after : List ℕ)
    → drop (at + length (spelling p)) x ≡ pieces_text ps ++ after → ArePieces (p ∷ before) ps after
    → Cut x (filled before (p ∷ ps) ts ++ tokens_of before (p ∷ ps)) (cs ++ comments_of before (p ∷ ps)) after
    (at + length (pieces_text (p ∷ ps))) (behind (p ∷ before) ps)
goes_past x before at ts cs p g n ps after w h =
    let rest : n.after ≡ pieces_text ps ++ after = sym (rest_is x (spelling p) n.after at n.cut) ∙ w in
    g (p ∷ ps) after (n.cut ∙ (ap (λ t. spelling p ++ t) rest ∙ sym (append_assoc (spelling p) (pieces_text ps) after)))
    (subst (IsPiece (goal_of before) p) rest n.fits, h)

same_cut : (x : List ℕ) (ts us : List Token) (cs ds : List Comment) (after : List ℕ) (m n : ℕ)
    (before : List Piece) → ts ≡ us → cs ≡ ds → m ≡ n
    → Cut x ts cs after m before → Cut x us ds after n before
same_cut x ts us cs ds after m n before p q r c = record {
  pieces = c.pieces;
  whole = c.whole;
  each = c.each;
  place_is = sym r ∙ c.place_is;
  tokens_are = sym p ∙ c.tokens_are;
  comments_are = sym q ∙ c.comments_are;
  behind_is = c.behind_is;
}

sizes : (at : ℕ) (p : Piece) (ps : List Piece)
    → at + length (pieces_text (p ∷ ps)) ≡ at + length (spelling p) + length (pieces_text ps)
sizes at p ps = omega (arith, length-append (spelling p) (pieces_text ps))

-- ---- the tokens behind each piece
blank_tokens : (s : List ℕ) (before ps : List Piece) (ts : List Token)
    → filled before (blank s ∷ ps) ts ++ tokens_of before (blank s ∷ ps)
    ≡ filled (blank s ∷ before) ps ts ++ tokens_of (blank s ∷ before) ps
unfolding filled tokens_of closer_at stack.opens_of count_of
blank_tokens s before ps ts = refl

line_tokens : (s : List ℕ) (before ps : List Piece) (ts : List Token)
    → filled before (line_end s ∷ ps) ts ++ tokens_of before (line_end s ∷ ps)
    ≡ filled (line_end s ∷ before) ps ts ++ tokens_of (line_end s ∷ before) ps
unfolding filled tokens_of closer_at stack.opens_of count_of
line_tokens s before ps ts = refl

comment_tokens : (kind : CommentKind) (text : List ℕ) (before ps : List Piece) (ts : List Token)
    → filled before (comment kind text ∷ ps) ts ++ tokens_of before (comment kind text ∷ ps)
    ≡ filled (comment kind text ∷ before) ps ts ++ tokens_of (comment kind text ∷ before) ps
unfolding filled tokens_of closer_at stack.opens_of count_of
comment_tokens kind text before ps ts = refl

-- the tokens, with this one behind them
abbrev pub with_token : TokenKind → ℕ → ℕ → Bool → List OpenBracket → List Token → List Token
with_token k at end line os ts =
    scan.joined (scan.closed_of (role_of k) os) (length ts) ts
    ++ scan.token_with k (record { start = at; end = end }) line (role_of k) (scan.closed_of (role_of k) os) ∷ []

join_step : (f g : List Token) (u : Option ℕ → Token) (p q : Option ℕ) (rest : List Token) → g ≡ f ++ u p ∷ []
    → p ≡ q → g ++ rest ≡ f ++ u q ∷ rest
join_step f g u p q rest e h =
    ap (λ v. v ++ rest) e ∙ (append_assoc f (u p ∷ []) rest ∙ ap (λ o. f ++ u o ∷ rest) h)

token_tokens : (k : TokenKind) (s : List ℕ) (before ps : List Piece) (ts : List Token) → count_of before ≡ length ts
    → filled before (token k s ∷ ps) ts ++ tokens_of before (token k s ∷ ps)
    ≡ filled (token k s ∷ before) ps (with_token k (place_of before) (place_of before + length s) (line_since before)
    (stack.opens_of before) ts) ++ tokens_of (token k s ∷ before) ps
unfolding filled tokens_of closer_at stack.opens_of count_of
token_tokens k s before ps ts e =
    sym (join_step
    (stack.fill (stack.opens_of before)
    (λ d. closer_by d (role_of k) (count_of before) (λ m. closer_at m (count_of before + 1) ps)) ts)
    _ (stack.with_partner k (range_at (place_of before) (length s)) (line_since before))
    (stack.partner_by (role_of k) (stack.opens_of before) (λ d. closer_at d (count_of before + 1) ps)) _
    (tokens_of (token k s ∷ before) ps)
    (ap (λ (m : ℕ). stack.fill (scan.pushed (role_of k) (count_of before) (headed before)
    (scan.left_of (role_of k) (stack.opens_of before))) (λ d. closer_at d (count_of before + 1) ps)
    (scan.joined (scan.closed_of (role_of k) (stack.opens_of before)) m ts
    ++ scan.token_with k (range_at (place_of before) (length s)) (line_since before) (role_of k)
    (scan.closed_of (role_of k) (stack.opens_of before)) ∷ [])) (sym e)
    ∙ stack.fill_role (role_of k) (stack.opens_of before) (count_of before)
    (λ d. closer_at d (count_of before + 1) ps) ts k (range_at (place_of before) (length s)) (line_since before)
    (headed before) e (stack.below before))
    (stack.partner_is (role_of k) before ps))

token_comments : (k : TokenKind) (s : List ℕ) (before ps : List Piece)
    → comments_of before (token k s ∷ ps) ≡ comments_of (token k s ∷ before) ps
unfolding comments_of
token_comments k s before ps = refl

-- ---- each piece goes on
blank_goes : (x : List ℕ) (at : ℕ) (state : State) (brackets : List OpenBracket) (ts : List Token) (cs : List Comment)
    (b : List ℕ) → (s : SoFar x at state brackets ts cs)
    → Next x s.before at (blank b) → SoFar x (at + length b) (blank_state state) brackets ts cs
unfolding comments_of stack.opens_of count_of state_of is_behind line_since divides member headed after_for is_front
blank_goes x at state brackets ts cs b s n = record {
  within = ends_within x b n.after at s.within n.cut;
  before = blank b ∷ s.before;
  place = ap (λ m. m + length b) s.place;
  state_is = ap blank_state s.state_is;
  open_is = s.open_is;
  count_is = s.count_is;
  goes = λ ps after w h. same_cut x _ _ _ _ after _ _ _ (blank_tokens b s.before ps ts) refl (sizes at (blank b) ps)
      (goes_past x s.before at ts cs (blank b) s.goes n ps after w h);
}

line_goes : (x : List ℕ) (at : ℕ) (state : State) (brackets : List OpenBracket) (ts : List Token) (cs : List Comment)
    (b : List ℕ) → (s : SoFar x at state brackets ts cs)
    → Next x s.before at (line_end b) → SoFar x (at + length b) (line_state state) brackets ts cs
unfolding comments_of stack.opens_of count_of state_of is_behind line_since divides member headed after_for is_front
line_goes x at state brackets ts cs b s n = record {
  within = ends_within x b n.after at s.within n.cut;
  before = line_end b ∷ s.before;
  place = ap (λ m. m + length b) s.place;
  state_is = ap line_state s.state_is;
  open_is = s.open_is;
  count_is = s.count_is;
  goes = λ ps after w h. same_cut x _ _ _ _ after _ _ _ (line_tokens b s.before ps ts) refl (sizes at (line_end b) ps)
      (goes_past x s.before at ts cs (line_end b) s.goes n ps after w h);
}

comment_goes : (x : List ℕ) (at : ℕ) (state : State) (brackets : List OpenBracket) (ts : List Token) (cs : List Comment)
    (kind : CommentKind) (text : List ℕ) → (s : SoFar x at state brackets ts cs)
    → Next x s.before at (comment kind text)
    → SoFar x (at + length (comment_spelling kind text)) (comment_state state (has_line_end text)) brackets ts
    (cs ++ record { kind = kind; range = range_at at (length (comment_spelling kind text)); text = text } ∷ [])
unfolding comments_of stack.opens_of count_of state_of is_behind line_since divides member headed after_for is_front
comment_goes x at state brackets ts cs kind text s n = record {
  within = ends_within x (comment_spelling kind text) n.after at s.within n.cut;
  before = comment kind text ∷ s.before;
  place = ap (λ m. m + length (comment_spelling kind text)) s.place;
  state_is = ap (λ (v : State). comment_state v (has_line_end text)) s.state_is;
  open_is = s.open_is;
  count_is = s.count_is;
  goes = λ ps after w h. same_cut x _ _ _ _ after _ _ _ (comment_tokens kind text s.before ps ts)
      (ap (λ (m : ℕ). cs ++ record {
        kind = kind;
        range = range_at m (length (comment_spelling kind text));
        text = text;
      } ∷ comments_of (comment kind text ∷ s.before) ps) (sym s.place)
      ∙ sym (append_assoc cs _ _)) (sizes at (comment kind text) ps)
      (goes_past x s.before at ts cs (comment kind text) s.goes n ps after w h);
}

ap2 : {A B C : Type 0} (f : A → B → C) {a c : A} {b d : B} → a ≡ c → b ≡ d → f a b ≡ f c d
ap2 f p q = λ i. f (p i) (q i)

token_lists : (k : TokenKind) (place at size : ℕ) (line : Bool) (state : State) (os opens : List OpenBracket)
    (ts : List Token) → at ≡ place → state.line ≡ line → opens ≡ os
    → with_token k place (place + size) line os ts ≡ with_token k at (at + size) state.line opens ts
token_lists k place at size line state os opens ts p q r = cc

-- what a token leaves, for the lists that it makes
pub record TokenAfter (x : List ℕ) (at : ℕ) (state : State) (brackets : List OpenBracket) (ts : List Token)
    (cs : List Comment) (k : TokenKind) (end : ℕ) : Type 0 where
  pub forward : at < end
  pub within : end ≤ length x
  pub goes : (opens : List OpenBracket) (us : List Token) (closed : Bool)
      → closed ≡ scan.is_headed (scan.closed_of (role_of k) (reverse brackets))
      → us ≡ with_token k at end state.line (reverse brackets) ts
      → reverse opens ≡ scan.pushed (role_of k) (length ts) state.headed (scan.left_of (role_of k) (reverse brackets))
      → SoFar x end (token_state state k closed) opens us cs

length_with : (k : TokenKind) (at end : ℕ) (line : Bool) (os : List OpenBracket) (ts : List Token)
    → length (with_token k at end line os ts) ≡ length ts + 1
length_with k at end line os ts =
    omega (
      arith,
      length-append (scan.joined (scan.closed_of (role_of k) os) (length ts) ts)
          (scan.token_with k (record { start = at; end = end }) line (role_of k) (scan.closed_of (role_of k) os) ∷ []),
      stack.joined_length (scan.closed_of (role_of k) os) (length ts) ts,
    )

token_goes : (x : List ℕ) (at : ℕ) (state : State) (brackets : List OpenBracket) (ts : List Token) (cs : List Comment)
    (k : TokenKind) (t : List ℕ) → 0 < length t → (s : SoFar x at state brackets ts cs) → Next x s.before at (token k t)
    → TokenAfter x at state brackets ts cs k (at + length t)
unfolding stack.opens_of count_of state_of
token_goes x at state brackets ts cs k t l s n = record {
  forward = omega arith;
  within = ends_within x t n.after at s.within n.cut;
  goes = λ opens us closed p q r. record {
    within = ends_within x t n.after at s.within n.cut;
    before = token k t ∷ s.before;
    place = ap (λ m. m + length t) s.place;
    state_is = ap2 (λ (v : State) (b : Bool). token_state v k b) s.state_is
        (p ∙ ap (λ os. scan.is_headed (scan.closed_of (role_of k) os)) s.open_is)
        ∙ stack.state_behind s.before k t;
    open_is = r ∙ (ap (λ (os : List OpenBracket). scan.pushed (role_of k) (length ts) state.headed
        (scan.left_of (role_of k) os)) s.open_is
        ∙ ap2 (λ (m : ℕ) (v : State). scan.pushed (role_of k) m v.headed
        (scan.left_of (role_of k) (stack.opens_of s.before))) (sym s.count_is) s.state_is);
    count_is = let e : count_of s.before ≡ length ts = s.count_is in
        omega (arith, ap length q, length_with k at (at + length t) state.line (reverse brackets) ts);
    goes = λ ps after w h. same_cut x _ _ _ _ after _ _ _
        (token_tokens k t s.before ps ts s.count_is
        ∙ ap (λ (vs : List Token). filled (token k t ∷ s.before) ps vs ++ tokens_of (token k t ∷ s.before) ps)
        (token_lists k (place_of s.before) at (length t) (line_since s.before) state (stack.opens_of s.before)
        (reverse brackets) ts s.place (ap (λ (v : State). v.line) s.state_is) s.open_is ∙ sym q))
        (ap (λ ds. cs ++ ds) (token_comments k t s.before ps)) (sizes at (token k t) ps)
        (goes_past x s.before at ts cs (token k t) s.goes n ps after w h);
  };
}

-- ---- what each look adds
-- a comment stands at the place, and its text can be cut out
pub record CommentAfter (x : List ℕ) (at : ℕ) (state : State) (brackets : List OpenBracket) (ts : List Token)
    (cs : List Comment) (kind : CommentKind) (end : ℕ) (lines : Bool) : Type 0 where
  pub forward : at < end
  pub has_text : HasCommentText x kind at end
  pub goes : SoFar x end (comment_state state lines) brackets ts (cs ++ comment_at x kind at end ∷ [])

-- what is known behind a look
abbrev pub After : List ℕ → ℕ → State → List OpenBracket → List Token → List Comment → Look → Type 0
After x at state brackets ts cs look.End = Reads x ts cs
After x at state brackets ts cs (look.Blank end) = (at < end) × SoFar x end (blank_state state) brackets ts cs
After x at state brackets ts cs (look.LineEnd end) = (at < end) × SoFar x end (line_state state) brackets ts cs
After x at state brackets ts cs (look.Comment kind end lines) = CommentAfter x at state brackets ts cs kind end lines
After x at state brackets ts cs (look.Token k end) = TokenAfter x at state brackets ts cs k end
After x at state brackets ts cs (look.Fault kind place) = Stops x kind place

none_of_innermost : (os : List OpenBracket) → None ≡ scan.innermost os → os ≡ []
none_of_innermost [] e = refl
none_of_innermost (o ∷ os) e = cc

none_by : (o : Option Open) → bracket_of o ≡ None → o ≡ None
none_by None e = refl
none_by (Some o) e = cc

closed_at : (before : List Piece) → (goal_of before).bracket ≡ None → open_at 0 before ≡ None
unfolding goal_of
closed_at before e = none_by (open_at 0 before) e

fill_none : (os : List OpenBracket) (later : ℕ → Option ℕ) (ts : List Token) → os ≡ [] → stack.fill os later ts ≡ ts
unfolding stack.fill
fill_none [] later ts e = refl
fill_none (o ∷ os) later ts e = cc

filled_none : (before ps : List Piece) (ts : List Token) → stack.opens_of before ≡ [] → filled before ps ts ≡ ts
unfolding filled
filled_none before ps ts e = fill_none (stack.opens_of before) (λ d. closer_at d (count_of before) ps) ts e

end_after : (x : List ℕ) (at : ℕ) (state : State) (brackets : List OpenBracket) (ts : List Token) (cs : List Comment)
    → (s : SoFar x at state brackets ts cs) → (goal_of s.before).bracket ≡ None → drop at x ≡ [] → Reads x ts cs
unfolding tokens_of comments_of filled
end_after x at state brackets ts cs s b w =
    let c : Cut x (filled s.before [] ts ++ []) (cs ++ []) [] (at + 0) s.before = s.goes [] [] w tt in
    let none : stack.opens_of s.before ≡ [] =
    none_of_innermost (stack.opens_of s.before)
    (ap bracket_of (sym (closed_at s.before b)) ∙ stack.bracket_is s.before) in
    record {
      pieces = c.pieces;
      whole = c.whole ∙ append-nil (pieces_text c.pieces);
      each = c.each;
      all_closed = ap (open_at 0) (sym c.behind_is) ∙ closed_at s.before b;
      tokens_are = sym (append-nil ts) ∙ (ap (λ us. us ++ []) (sym (filled_none s.before [] ts none)) ∙ c.tokens_are);
      comments_are = sym (append-nil cs) ∙ c.comments_are;
    }

fault_after : (x : List ℕ) (at : ℕ) (state : State) (brackets : List OpenBracket) (ts : List Token) (cs : List Comment)
    (kind : LexicalKind) (place : ℕ) → (s : SoFar x at state brackets ts cs)
    → Stuck (goal_of s.before) (drop at x) at kind place → Stops x kind place
unfolding tokens_of comments_of
fault_after x at state brackets ts cs kind place s h =
    let c : Cut x (filled s.before [] ts ++ []) (cs ++ []) (drop at x) (at + 0) s.before =
    s.goes [] (drop at x) refl tt in
    let here : at ≡ length (pieces_text c.pieces) = let e : at + 0 ≡ length (pieces_text c.pieces) = c.place_is in
    omega arith in
    record {
      pieces = c.pieces;
      rest = drop at x;
      whole = c.whole;
      each = c.each;
      stuck = subst (λ (n : ℕ). Stuck (goal_of (behind [] c.pieces)) (drop at x) n kind place) here
          (subst (λ (ps : List Piece). Stuck (goal_of ps) (drop at x) at kind place) c.behind_is h);
    }

-- the byte behind a part of the rest
byte_behind : (x s after : List ℕ) (at b : ℕ) → drop at x ≡ s ++ b ∷ after → get_or x (at + length s) 0 ≡ b
byte_behind x s after at b w =
    sym (get_or-drop at x (length s) 0) ∙ (ap (λ t. get_or t (length s) 0) w ∙ get_or_at s b after 0 (length s) refl)

behind_within : (x s after : List ℕ) (at b : ℕ) → at ≤ length x → drop at x ≡ s ++ b ∷ after
    → at + length s < length x
behind_within x s after at b h w =
    let e : length (drop at x) ≡ length (s ++ b ∷ after) = ap length w in
    omega (arith, length-drop at x, length-append s (b ∷ after))

-- a part of the text behind a place
part_is : (x s t after : List ℕ) (at m n : ℕ) → drop at x ≡ s ++ (t ++ after) → m ≡ at + length s → n ≡ m + length t
    → slice_range x m n ≡ t
part_is x s t after at m n w p q =
    let from : drop m x ≡ t ++ after = ap (λ i. drop i x) p ∙ rest_is x s (t ++ after) at w in
    ap (take (n - m)) from ∙ take_at t after (n - m) (omega arith)

-- a line ends where a character does
line_boundary : (x s after : List ℕ) (at : ℕ) → at ≤ length x → drop at x ≡ s ++ after → StartsChar after
    → IsCharBoundary x (at + length s)
line_boundary x s [] at h w l =
    let e : length (drop at x) ≡ length (s ++ []) = ap length w in
    let here : at + length s ≡ length x = omega (arith, length-drop at x, length-append s []) in
    subst (IsCharBoundary x) (sym here) (IsCharBoundary-end x)
line_boundary x s (b ∷ after) at h w l =
    let byte : get_or x (at + length s) 0 ≡ b = byte_behind x s after at b w in
    let inside : at + length s < length x = behind_within x s after at b h w in (
      omega arith,
      λ m a. subst (λ (c : ℕ). 192 ≤ c) (sym byte) (l (subst (λ (c : ℕ). 128 ≤ c) byte a)),
    )

-- behind the two bytes that brackets a comment
opened : (x after : List ℕ) (at a b : ℕ) → IsUtf8 x → at ≤ length x → drop at x ≡ a ∷ b ∷ after → b < 128
    → IsCharBoundary x (at + 2)
opened x after at a b u h w l =
    let ascii : get_or x (at + length (a ∷ [])) 0 < 128 =
    subst (λ (c : ℕ). c < 128) (sym (byte_behind x (a ∷ []) after at b w)) l in
    let here : at + length (a ∷ []) + 1 ≡ at + 2 = omega arith in
    subst (IsCharBoundary x) here
    (IsCharBoundary-after_ascii x (at + length (a ∷ [])) u (behind_within x (a ∷ []) after at b h w) ascii)

comment_as : (x : List ℕ) (at : ℕ) (state : State) (brackets : List OpenBracket) (ts : List Token) (cs : List Comment)
    (kind : CommentKind) (text : List ℕ) (n : ℕ) (t : List ℕ) → text ≡ t
    → SoFar x n state brackets ts
    (cs ++ record { kind = kind; range = record { start = at; end = n }; text = text } ∷ [])
    → SoFar x n state brackets ts (cs ++ record { kind = kind; range = record { start = at; end = n }; text = t } ∷ [])
comment_as x at state brackets ts cs kind text n t q s =
    subst (λ (v : List ℕ). SoFar x n state brackets ts
    (cs ++ record { kind = kind; range = record { start = at; end = n }; text = v } ∷ [])) q s

comment_after : (x : List ℕ) (at : ℕ) (state : State) (brackets : List OpenBracket) (ts : List Token)
    (cs : List Comment)
    (kind : CommentKind) (text : List ℕ) → IsUtf8 x
    → (s : SoFar x at state brackets ts cs) → Next x s.before at (comment kind text)
    → CommentAfter x at state brackets ts cs kind (at + length (comment_spelling kind text)) (has_line_end text)
unfolding comment_spelling
comment_after x at state brackets ts cs Line text u s n =
    let cut : drop at x ≡ (47 ∷ 47 ∷ text) ++ n.after = n.cut in
    let is : slice_range x (at + 2) (at + length (47 ∷ 47 ∷ text)) ≡ text =
    part_is x (47 ∷ 47 ∷ []) text n.after at (at + 2) (at + length (47 ∷ 47 ∷ text)) cut (omega arith)
    (omega arith) in
    record {
      forward = omega arith;
      has_text = record {
        room = omega arith;
        starts = opened x (text ++ n.after) at 47 47 u s.within cut (omega arith);
        stops = line_boundary x (47 ∷ 47 ∷ text) n.after at s.within cut (line_starts n.after n.fits.1);
      };
      goes = comment_as x at _ brackets ts cs Line text _ _ (sym is)
          (comment_goes x at state brackets ts cs Line text s n);
    }
comment_after x at state brackets ts cs Block text u s n =
    let size : length (47 ∷ 42 ∷ (text ++ 42 ∷ 47 ∷ [])) ≡ length text + 4 =
    omega (arith, length-append text (42 ∷ 47 ∷ [])) in
    let cut : drop at x ≡ (47 ∷ 42 ∷ text) ++ 42 ∷ 47 ∷ n.after = n.cut
    ∙ ap (λ t. 47 ∷ 42 ∷ t) (append_assoc text (42 ∷ 47 ∷ []) n.after) in
    let is : slice_range x (at + 2) (at + length (47 ∷ 42 ∷ (text ++ 42 ∷ 47 ∷ [])) - 2) ≡ text =
    part_is x (47 ∷ 42 ∷ []) text (42 ∷ 47 ∷ n.after) at (at + 2)
    (at + length (47 ∷ 42 ∷ (text ++ 42 ∷ 47 ∷ [])) - 2) cut (omega arith) (omega arith) in
    let star : get_or x (at + length (47 ∷ 42 ∷ text)) 0 < 128 =
    subst (λ (c : ℕ). c < 128) (sym (byte_behind x (47 ∷ 42 ∷ text) (47 ∷ n.after) at 42 cut)) (omega arith) in
    let here : at + length (47 ∷ 42 ∷ text) ≡ at + length (47 ∷ 42 ∷ (text ++ 42 ∷ 47 ∷ [])) - 2 = omega arith in
    record {
      forward = omega arith;
      has_text = record {
        room = omega arith;
        starts = opened x (text ++ 42 ∷ 47 ∷ n.after) at 47 42 u s.within cut (omega arith);
        stops = subst (IsCharBoundary x) here
            (IsCharBoundary-before_ascii x (at + length (47 ∷ 42 ∷ text))
            (behind_within x (47 ∷ 42 ∷ text) (47 ∷ n.after) at 42 s.within cut) star);
      };
      goes = comment_as x at _ brackets ts cs Block text _ _ (sym is)
          (comment_goes x at state brackets ts cs Block text s n);
    }

token_size : (goal : Goal) (k : TokenKind) (t after : List ℕ) → IsPiece goal (token k t) after → 0 < length t
token_size goal k [] after h = absurd (not_empty goal k h.spells)
token_size goal k (b ∷ t) after h = omega arith

blank_size : (b : List ℕ) → IsByte Blank b ⊎ IsWideBlank b → 0 < length b
blank_size b (inl h) = let e : length b ≡ 1 = ap length h.whole in omega arith
blank_size b (inr h) = h.0

line_size : (b : List ℕ) → IsByte LineEnd b ⊎ IsWideLine b → 0 < length b
line_size b (inl h) = let e : length b ≡ 1 = ap length h.whole in omega arith
line_size b (inr h) = h.0

piece_after : (x : List ℕ) (at : ℕ) (state : State) (brackets : List OpenBracket) (ts : List Token) (cs : List Comment)
    (p : Piece) → IsUtf8 x
    → (s : SoFar x at state brackets ts cs) → Next x s.before at p → After x at state brackets ts cs (reading_of at p)
piece_after x at state brackets ts cs (blank b) u s n =
    let size : 0 < length b = blank_size b n.fits in (omega arith, blank_goes x at state brackets ts cs b s n)
piece_after x at state brackets ts cs (line_end b) u s n =
    let size : 0 < length b = line_size b n.fits in (omega arith, line_goes x at state brackets ts cs b s n)
piece_after x at state brackets ts cs (comment kind text) u s n =
    comment_after x at state brackets ts cs kind text u s n
piece_after x at state brackets ts cs (token k t) u s n =
    token_goes x at state brackets ts cs k t (token_size (goal_of s.before) k t n.after n.fits) s n

found_after : (x : List ℕ) (at : ℕ) (state : State) (brackets : List OpenBracket) (ts : List Token) (cs : List Comment)
    (l : Look) → IsUtf8 x → (s : SoFar x at state brackets ts cs) → Found (goal_of s.before) at (drop at x) l
    → After x at state brackets ts cs l
found_after x at state brackets ts cs l u s (ended w b e) =
    subst (After x at state brackets ts cs) (sym e) (end_after x at state brackets ts cs s b w)
found_after x at state brackets ts cs l u s (piece p after w h e) =
    subst (After x at state brackets ts cs) (sym e)
    (piece_after x at state brackets ts cs p u s (record { after = after; cut = w; fits = h }))
found_after x at state brackets ts cs l u s (fault kind place h e) = subst (After x at state brackets ts cs) (sym e)
    (fault_after x at state brackets ts cs kind place s h)

goal_same : (x : List ℕ) (at : ℕ) (state : State) (brackets : List OpenBracket) (ts : List Token) (cs : List Comment)
    → (s : SoFar x at state brackets ts cs) → goal_in state (scan.innermost (reverse brackets)) ≡ goal_of s.before
goal_same x at state brackets ts cs s =
    ap2 (λ (v : State) (os : List OpenBracket). goal_in v (scan.innermost os)) s.state_is s.open_is
    ∙ stack.goal_is s.before

-- what is known behind a look at the place up to which the text is read
pub advance : (x : List ℕ) (at : ℕ) (state : State) (brackets : List OpenBracket) (ts : List Token) (cs : List Comment)
    (goal : Goal) (l : Look) → IsUtf8 x → SoFar x at state brackets ts cs
    → goal ≡ goal_in state (scan.innermost (reverse brackets))
    → l ≡ look_at goal at (drop at x) → After x at state brackets ts cs l
advance x at state brackets ts cs goal l u s g e =
    found_after x at state brackets ts cs l u s
    (subst (Found (goal_of s.before) at (drop at x))
    (sym (e ∙ ap (λ (v : Goal). look_at v at (drop at x)) (g ∙ goal_same x at state brackets ts cs s)))
    (look_finds (goal_of s.before) at (drop at x)))

-- the same for a look at the bytes of the text, from the place on
pub advance_at : (x y : List ℕ) (at : ℕ) (state : State) (brackets : List OpenBracket) (ts : List Token)
    (cs : List Comment) (goal : Goal) (bracket : Option BracketKind) (l : Look) → IsUtf8 x → y ≡ x
    → SoFar x at state brackets ts cs → bracket ≡ scan.innermost (reverse brackets) → goal ≡ goal_in state bracket
    → l ≡ look_at goal at (take (length y - at) (drop at y)) → After x at state brackets ts cs l
advance_at x y at state brackets ts cs goal bracket l u w s b g e =
    advance x at state brackets ts cs goal l u s (g ∙ ap (goal_in state) b)
    (e ∙ (ap (look_at goal at) (take_rest y at) ∙ ap (λ t. look_at goal at (drop at t)) w))

-- ---- blanks of one byte
blank_reads : (goal : Goal) (at b : ℕ) (rest : List ℕ) → is_blank b ≡ true
    → look_at goal at (b ∷ rest) ≡ look.Blank (at + 1)
unfolding look_at class_look first_of
blank_reads goal at b rest e = rw e refl

blank_step : (x : List ℕ) (at : ℕ) (state : State) (brackets : List OpenBracket) (ts : List Token) (cs : List Comment)
    (b : ℕ) (rest : List ℕ) → IsUtf8 x → SoFar x at state brackets ts cs → drop at x ≡ b ∷ rest → is_blank b ≡ true
    → SoFar x (at + 1) (blank_state state) brackets ts cs
blank_step x at state brackets ts cs b rest u s w e =
    let goal : Goal = goal_in state (scan.innermost (reverse brackets)) in
    (advance x at state brackets ts cs goal (look.Blank (at + 1)) u s refl
    (sym (ap (look_at goal at) w ∙ blank_reads goal at b rest e))).1

either : (P : ℕ → Type 0) (v : Bool) (m n : ℕ) → (v ≡ true → P m) → P n → P (if v then m else n)
either P true m n p q = p refl
either P false m n p q = q

blanks_on : (x : List ℕ) (at : ℕ) (state : State) (brackets : List OpenBracket) (ts : List Token) (cs : List Comment)
    (rest : List ℕ) → IsUtf8 x → blank_state state ≡ state → SoFar x at state brackets ts cs → drop at x ≡ rest
    → SoFar x (blanks_end at rest) state brackets ts cs
unfolding blanks_end
blanks_on x at state brackets ts cs [] u f s w = s
blanks_on x at state brackets ts cs (b ∷ rest) u f s w =
    either (λ place. SoFar x place state brackets ts cs) (is_blank b) (blanks_end (at + 1) rest) at
    (λ e. blanks_on x (at + 1) state brackets ts cs rest u f
    (subst (λ (v : State). SoFar x (at + 1) v brackets ts cs) f (blank_step x at state brackets ts cs b rest u s w e))
    (rest_is x (b ∷ []) rest at w))
    s

blanks_forward : (at : ℕ) (rest : List ℕ) → at ≤ blanks_end at rest
unfolding blanks_end
blanks_forward at [] = omega arith
blanks_forward at (b ∷ rest) =
    either (λ place. at ≤ place) (is_blank b) (blanks_end (at + 1) rest) at
    (λ e. omega (arith, blanks_forward (at + 1) rest)) (omega arith)

-- what is read behind a piece and the blanks that follow it
pub behind_piece : (x y : List ℕ) (at end place : ℕ) (state : State) (brackets : List OpenBracket) (ts : List Token)
    (cs : List Comment) → IsUtf8 x → y ≡ x → blank_state state ≡ state → at < end → SoFar x end state brackets ts cs
    → place ≡ blanks_end end (drop end y) → (at < place) × SoFar x place state brackets ts cs
behind_piece x y at end place state brackets ts cs u w f l s e =
    let same : place ≡ blanks_end end (drop end x) = e ∙ ap (λ t. blanks_end end (drop end t)) w in (
      omega (arith, same, blanks_forward end (drop end x)),
      subst (λ n. SoFar x n state brackets ts cs) (sym same)
          (blanks_on x end state brackets ts cs (drop end x) u f s refl),
    )

-- a blank changes nothing behind another piece
pub settled_blank : (state : State) → blank_state (blank_state state) ≡ blank_state state
settled_blank state = refl

pub settled_line : (state : State) → blank_state (line_state state) ≡ line_state state
settled_line state = refl

pub settled_token : (state : State) (k : TokenKind) (headed : Bool)
    → blank_state (token_state state k headed) ≡ token_state state k headed
unfolding token_state
settled_token state k headed = refl

-- a blank and the blanks that follow it
pub blank_passed : (x y : List ℕ) (at : ℕ) (state : State) (brackets : List OpenBracket) (ts : List Token)
    (cs : List Comment) (goal : Goal) (bracket : Option BracketKind) (end place : ℕ) → IsUtf8 x → y ≡ x
    → SoFar x at state brackets ts cs → bracket ≡ scan.innermost (reverse brackets) → goal ≡ goal_in state bracket
    → look.Blank end ≡ look_at goal at (take (length y - at) (drop at y)) → place ≡ blanks_end end (drop end y)
    → (at < place) × SoFar x place (blank_state state) brackets ts cs
blank_passed x y at state brackets ts cs goal bracket end place u w s b g e p =
    let after : After x at state brackets ts cs (look.Blank end) =
    advance_at x y at state brackets ts cs goal bracket (look.Blank end) u w s b g e in
    behind_piece x y at end place (blank_state state) brackets ts cs u w (settled_blank state) after.0 after.1 p

-- a line end and the blanks that follow it
pub line_passed : (x y : List ℕ) (at : ℕ) (state : State) (brackets : List OpenBracket) (ts : List Token)
    (cs : List Comment) (goal : Goal) (bracket : Option BracketKind) (end place : ℕ) → IsUtf8 x → y ≡ x
    → SoFar x at state brackets ts cs → bracket ≡ scan.innermost (reverse brackets) → goal ≡ goal_in state bracket
    → look.LineEnd end ≡ look_at goal at (take (length y - at) (drop at y)) → place ≡ blanks_end end (drop end y)
    → (at < place) × SoFar x place (line_state state) brackets ts cs
line_passed x y at state brackets ts cs goal bracket end place u w s b g e p =
    let after : After x at state brackets ts cs (look.LineEnd end) =
    advance_at x y at state brackets ts cs goal bracket (look.LineEnd end) u w s b g e in
    behind_piece x y at end place (line_state state) brackets ts cs u w (settled_line state) after.0 after.1 p

-- a place within the text is within its bytes
pub within_bytes : (x y : List ℕ) (end : ℕ) → y ≡ x → end ≤ length x → end ≤ length y
within_bytes x y end w l = let e : length y ≡ length x = ap length w in omega arith

-- what is left of a text grows smaller
pub less_left : (x y : List ℕ) (at end : ℕ) → y ≡ x → at < end → end ≤ length x → length y - end < length y - at
less_left x y at end w p q = let e : length y ≡ length x = ap length w in omega arith

-- the state said in other words
pub so_far_as : (x : List ℕ) (at : ℕ) (v w : State) (brackets : List OpenBracket) (ts : List Token)
    (cs ds : List Comment)
    → SoFar x at v brackets ts cs → w ≡ v → ds ≡ cs → SoFar x at w brackets ts ds
so_far_as x at v w brackets ts cs ds s p q =
    subst (λ (c : List Comment). SoFar x at w brackets ts c) (sym q)
    (subst (λ (m : State). SoFar x at m brackets ts cs) (sym p) s)

-- a token that is told by its first bytes, and the blanks that follow it
token_on : (x y : List ℕ) (at : ℕ) (state : State) (brackets : List OpenBracket) (ts : List Token)
    (cs : List Comment) (goal : Goal) (bracket : Option BracketKind) (k : TokenKind) (end place : ℕ)
    (opens : List OpenBracket) (us : List Token) (next : State) → IsUtf8 x → y ≡ x → SoFar x at state brackets ts cs
    → bracket ≡ scan.innermost (reverse brackets) → goal ≡ goal_in state bracket
    → look_at goal at (take (length y - at) (drop at y)) ≡ look.Token k end
    → next ≡ token_state state k (scan.is_headed (scan.closed_of (role_of k) (reverse brackets)))
    → us ≡ with_token k at end state.line (reverse brackets) ts
    → reverse opens ≡ scan.pushed (role_of k) (length ts) state.headed (scan.left_of (role_of k) (reverse brackets))
    → place ≡ blanks_end end (drop end y) → (at < place) × SoFar x place next opens us cs
token_on x y at state brackets ts cs goal bracket k end place opens us next u w s b g e n q r p =
    let after : TokenAfter x at state brackets ts cs k end =
    advance_at x y at state brackets ts cs goal bracket (look.Token k end) u w s b g (sym e) in
    let closed : Bool = scan.is_headed (scan.closed_of (role_of k) (reverse brackets)) in
    let on : (at < place) × SoFar x place (token_state state k closed) opens us cs =
    behind_piece x y at end place (token_state state k closed) opens us cs u w (settled_token state k closed)
    after.forward (after.goes opens us closed refl q r) p in
    (on.0, so_far_as x place (token_state state k closed) next opens us cs cs on.1 n refl)

-- the same for a role that is told
pub token_passed : (x y : List ℕ) (at : ℕ) (state : State) (brackets : List OpenBracket) (ts : List Token)
    (cs : List Comment) (goal : Goal) (bracket : Option BracketKind) (k : TokenKind) (role : Role) (end place : ℕ)
    (opens : List OpenBracket) (us : List Token) (next : State) → IsUtf8 x → y ≡ x → SoFar x at state brackets ts cs
    → bracket ≡ scan.innermost (reverse brackets) → goal ≡ goal_in state bracket
    → look_at goal at (take (length y - at) (drop at y)) ≡ look.Token k end → role ≡ role_of k
    → next ≡ token_state state k (scan.is_headed (scan.closed_of role (reverse brackets)))
    → us ≡ scan.joined (scan.closed_of role (reverse brackets)) (length ts) ts
    ++ scan.token_with k (record { start = at; end = end }) state.line role (scan.closed_of role (reverse brackets))
    ∷ []
    → reverse opens ≡ scan.pushed role (length ts) state.headed (scan.left_of role (reverse brackets))
    → place ≡ blanks_end end (drop end y) → (at < place) × SoFar x place next opens us cs
token_passed x y at state brackets ts cs goal bracket k role end place opens us next u w s b g e h n q r p =
    token_on x y at state brackets ts cs goal bracket k end place opens us next u w s b g e
    (n ∙ ap (λ (v : Role). token_state state k (scan.is_headed (scan.closed_of v (reverse brackets)))) h)
    (q ∙ ap (λ (v : Role). scan.joined (scan.closed_of v (reverse brackets)) (length ts) ts
    ++ scan.token_with k (record { start = at; end = end }) state.line v (scan.closed_of v (reverse brackets)) ∷ []) h)
    (r ∙ ap (λ (v : Role). scan.pushed v (length ts) state.headed (scan.left_of v (reverse brackets))) h) p

-- such a token ends within the text
pub token_within : (x y : List ℕ) (at : ℕ) (state : State) (brackets : List OpenBracket) (ts : List Token)
    (cs : List Comment) (goal : Goal) (bracket : Option BracketKind) (k : TokenKind) (end : ℕ) → IsUtf8 x → y ≡ x
    → SoFar x at state brackets ts cs → bracket ≡ scan.innermost (reverse brackets) → goal ≡ goal_in state bracket
    → look_at goal at (take (length y - at) (drop at y)) ≡ look.Token k end → end ≤ length y
token_within x y at state brackets ts cs goal bracket k end u w s b g e =
    let after : TokenAfter x at state brackets ts cs k end =
    advance_at x y at state brackets ts cs goal bracket (look.Token k end) u w s b g (sym e) in
    let same : length y ≡ length x = ap length w in
    omega (arith, after.within)

-- the answer of a fault
abbrev pub lexical_fault : LexicalKind → ℕ → Result Lexed LexError
lexical_fault kind at = Err (Lexical (record { kind = kind; at = at }))

-- a fault that is answered
pub fault_as : (x : List ℕ) (kind : LexicalKind) (at : ℕ) → Stops x kind at → (e : LexicalError)
    → lexical_fault kind at ≡ Err (Lexical e) → Stops x e.kind e.at
fault_as x kind at s e w =
    let f : LexicalError = record { kind = kind; at = at } in
    let same : f ≡ e = cc in
    subst (λ (v : LexicalError). Stops x v.kind v.at) same s

-- before the first piece
pub so_far_first : (x : List ℕ) (state : State) (brackets : List OpenBracket) (ts : List Token) (cs : List Comment)
    → state ≡ state_of [] → brackets ≡ [] → ts ≡ [] → cs ≡ [] → SoFar x 0 state brackets ts cs
so_far_first x state brackets ts cs p q r s =
    subst (λ (b : List OpenBracket). SoFar x 0 state b ts cs) (sym q)
    (subst (λ (t : List Token). SoFar x 0 state [] t cs) (sym r)
    (so_far_as x 0 (state_of []) state [] [] [] cs (so_far_start x) p s))
