-- Other string literals in the place of string literals leave a text's pieces to be its pieces.
use Rattle.std.proofs.Common.{◌≡◌, ℕ, zero, suc, ◌+◌, Bool, true, ◌&&◌, ◌||◌, List, [], ◌∷◌, ◌++◌, length, Option, Some, None, refl, sym, ◌∙◌, ap, subst, arith, append-nil}
use Rattle.es_literal.specs.Strings.{IsString, string_end}
use Rattle.es_literal.proofs.StringLemmas as literal
use Rattle.es_literal.specs.spelling.Units.{concat}
use Rattle.es_token.specs.declared.token.Token.{Token}
use Rattle.es_token.specs.declared.token.Comment.{Comment}
use Rattle.es_token.specs.declared.token.TokenKind.{TokenKind}
use Rattle.es_token.specs.declared.token.TokenKind.TheVariants.{Str}
use Rattle.es_token.specs.declared.token.CommentKind.TheVariants.{Line, Block}
use Rattle.es_lexer.specs.declared.bracket.BracketKind.{BracketKind}
use Rattle.es_lexer.specs.declared.bracket.Role.{Role}
use Rattle.es_lexer.specs.declared.bracket.Role.TheVariants.{Opens, Closes, Continues, Plain}
use Rattle.es_lexer.specs.declared.goal.Goal.{Goal}
use Rattle.es_lexer.specs.declared.look.Look.{Look}
use Rattle.es_lexer.specs.declared.look.Look.TheVariants as look
use Rattle.es_lexer.specs.Bytes.{has_line_end}
use Rattle.es_lexer.specs.Brackets.{role_of}
use Rattle.es_lexer.specs.Goal.{goal_of, allows, slash_rule, divides_behind, after_for, is_headed, headed, open_headed, divides, member, is_front}
use Rattle.es_lexer.specs.Look.{string_look, look_at}
use Rattle.es_lexer.specs.Pieces.{Piece, blank, line_end, comment, token, Open, spelling, pieces_text, behind, is_behind, line_since, open_behind, open_at, bracket_of}
use Rattle.es_lexer.specs.Spelling.{Spells}
use Rattle.es_lexer.specs.Readable.{IsToken, IsLongest, IsPiece, ArePieces}
use Rattle.es_lexer.specs.Reads.{Reads, tokens_of, comments_of}
use Rattle.es_lexer.proofs.LookLemmas.{Found, ended, piece, fault, look_finds}
use Rattle.es_law_edits.proofs.tokens.Twins.{Twin, ends, cut, twin_behind, twin_ends, twin_comment, twin_apart, twin_allows, Split, whole, within, split}
use Rattle.es_law_edits.proofs.tokens.Cuts.{cut_short, quote_looks, same_front, same_back}

-- what stands behind the first quote of a literal
abbrev concat_of : {s : List ℕ} → IsString s → List ℕ
concat_of i = concat i.units ++ i.quote ∷ []

-- ---- one token
longest_by : (goal : Goal) (k : TokenKind) (s a more rest : List ℕ) (j : TokenKind) → IsToken goal k s a
    → Split more rest a → Spells goal j (s ++ more) → allows goal j rest ≡ true → more ≡ []
longest_by goal k s a more rest j t (whole left e w) sp al =
    t.longest j more left e sp (twin_allows goal j left rest w ∙ al)
longest_by goal k s a more rest j t (within u v w q r f g d e) sp al =
    absurd (cut_short goal k j s a u v w rest q r f g t e (subst (λ (z : List ℕ). Spells goal j (s ++ z)) d sp) al)

longest_moves : (goal : Goal) (k : TokenKind) (s a b : List ℕ) → IsToken goal k s a → Twin a b → IsLongest goal s b
longest_moves goal k s a b t w j more rest e sp al = longest_by goal k s a more rest j t (split more rest a b w e) sp al

-- a token stands before a twin of the text behind it
pub token_moves : (goal : Goal) (k : TokenKind) (s a b : List ℕ) → IsToken goal k s a → Twin a b → IsToken goal k s b
token_moves goal k s a b t w = record {
  spells = t.spells;
  allowed = sym (twin_allows goal k a b w) ∙ t.allowed;
  longest = longest_moves goal k s a b t w;
  no_comment = sym (twin_comment (s ++ a) (s ++ b) (twin_behind s a b w)) ∙ t.no_comment;
  apart = sym (twin_apart k a b w) ∙ t.apart;
}

-- ---- a string literal stands before any text
string_reads : (goal : Goal) (t b : List ℕ) → IsString t → look_at goal 0 (t ++ b) ≡ look.Token Str (0 + length t)
unfolding string_look
string_reads goal t b i =
    let first : t ++ b ≡ i.quote ∷ ((concat_of i) ++ b) = ap (λ z. z ++ b) i.whole in
    ap (look_at goal 0) first ∙ (quote_looks goal 0 i.quote ((concat_of i) ++ b) i.quotes
    ∙ (ap (λ z. string_look 0 (string_end 0 z)) (sym first) ∙ ap (string_look 0) (literal.closes_found 0 t b i)))

found_str : (goal : Goal) (t b : List ℕ) (found : Look) → found ≡ look.Token Str (0 + length t)
    → Found goal 0 (t ++ b) found → IsToken goal Str t b
found_str goal t b found e (ended w h f) = cc
found_str goal t b found e (fault kind place h f) = cc
found_str goal t b found e (piece (blank r) rest w h f) = cc
found_str goal t b found e (piece (line_end r) rest w h f) = cc
found_str goal t b found e (piece (comment c r) rest w h f) = cc
found_str goal t b found e (piece (token k r) rest w h f) =
    let kinds : Str ≡ k = cc in
    let sizes : 0 + length t ≡ 0 + length r = cc in
    let fronts : t ≡ r = same_front t r b rest w (omega arith) in
    let backs : b ≡ rest = same_back t r b rest w (omega arith) in
    subst (λ (k : TokenKind). IsToken goal k t b) (sym kinds)
    (subst (λ (s : List ℕ). IsToken goal k s b) (sym fronts) (subst (IsToken goal k r) (sym backs) h))

pub string_stands : (goal : Goal) (t b : List ℕ) → IsString t → IsToken goal Str t b
string_stands goal t b i = found_str goal t b _ (string_reads goal t b i) (look_finds goal 0 (t ++ b))

-- ---- pieces
-- the same piece, or two string literals
pub data Alike : Piece → Piece → Type 0 where
  same : (p : Piece) → Alike p p
  other : (s t : List ℕ) → IsString s → IsString t → Alike (token Str s) (token Str t)

pub data AllAlike : List Piece → List Piece → Type 0 where
  none : AllAlike [] []
  one : (p q : Piece) (ps qs : List Piece) → Alike p q → AllAlike ps qs → AllAlike (p ∷ ps) (q ∷ qs)

twin_literals : (s t a b : List ℕ) → IsString s → IsString t → Twin (s ++ a) (t ++ b)
twin_literals s t a b i j =
    subst (λ (z : List ℕ). Twin (z ++ a) (t ++ b)) (sym i.whole)
    (subst (λ (z : List ℕ). Twin (i.quote ∷ (concat_of i ++ a)) (z ++ b)) (sym j.whole)
    (cut i.quote j.quote (concat_of i ++ a) (concat_of j ++ b) i.quotes j.quotes))

twin_piece : (p q : Piece) (a b : List ℕ) → Alike p q → Twin a b → Twin (spelling p ++ a) (spelling q ++ b)
twin_piece p q a b (same r) w = twin_behind (spelling r) a b w
twin_piece p q a b (other s t i j) w = twin_literals s t a b i j

pub twin_texts : (ps qs : List Piece) → AllAlike ps qs → Twin (pieces_text ps) (pieces_text qs)
twin_texts ps qs none = ends
twin_texts ps qs (one p q rs us h more) = twin_piece p q (pieces_text rs) (pieces_text us) h (twin_texts rs us more)

-- ---- what stands before a place, as the goal sees it
pub same_behind : (ps qs : List Piece) → AllAlike ps qs → is_behind ps ≡ is_behind qs
unfolding is_behind
same_behind ps qs none = refl
same_behind ps qs (one p q rs us (same (blank s)) more) = same_behind rs us more
same_behind ps qs (one p q rs us (same (line_end s)) more) = same_behind rs us more
same_behind ps qs (one p q rs us (same (comment c s)) more) = same_behind rs us more
same_behind ps qs (one p q rs us (same (token k s)) more) = refl
same_behind ps qs (one p q rs us (other s t i j) more) = refl

pub same_line : (ps qs : List Piece) → AllAlike ps qs → line_since ps ≡ line_since qs
unfolding line_since
same_line ps qs none = refl
same_line ps qs (one p q rs us (same (blank s)) more) = same_line rs us more
same_line ps qs (one p q rs us (same (line_end s)) more) = same_behind rs us more
same_line ps qs (one p q rs us (same (comment c s)) more) =
    let lines = same_line rs us more in let any = same_behind rs us more in
    ap (λ z. z || is_behind rs && has_line_end s) lines ∙ ap (λ z. line_since us || z && has_line_end s) any
same_line ps qs (one p q rs us (same (token k s)) more) = refl
same_line ps qs (one p q rs us (other s t i j) more) = refl

same_for : (ps qs : List Piece) → AllAlike ps qs → after_for ps ≡ after_for qs
unfolding after_for
same_for ps qs none = refl
same_for ps qs (one p q rs us (same (blank s)) more) = same_for rs us more
same_for ps qs (one p q rs us (same (line_end s)) more) = same_for rs us more
same_for ps qs (one p q rs us (same (comment c s)) more) = same_for rs us more
same_for ps qs (one p q rs us (same (token k s)) more) = refl
same_for ps qs (one p q rs us (other s t i j) more) = refl

same_headed : (ps qs : List Piece) → AllAlike ps qs → headed ps ≡ headed qs
unfolding headed
same_headed ps qs none = refl
same_headed ps qs (one p q rs us (same (blank s)) more) = same_headed rs us more
same_headed ps qs (one p q rs us (same (line_end s)) more) = same_headed rs us more
same_headed ps qs (one p q rs us (same (comment c s)) more) = same_headed rs us more
same_headed ps qs (one p q rs us (same (token k s)) more) = ap (is_headed k) (same_for rs us more)
same_headed ps qs (one p q rs us (other s t i j) more) = ap (is_headed Str) (same_for rs us more)

same_member : (ps qs : List Piece) → AllAlike ps qs → member ps ≡ member qs
unfolding member
same_member ps qs none = refl
same_member ps qs (one p q rs us (same (blank s)) more) = same_member rs us more
same_member ps qs (one p q rs us (same (line_end s)) more) = same_member rs us more
same_member ps qs (one p q rs us (same (comment c s)) more) = same_member rs us more
same_member ps qs (one p q rs us (same (token k s)) more) = refl
same_member ps qs (one p q rs us (other s t i j) more) = refl

same_front_of : (ps qs : List Piece) → AllAlike ps qs → is_front ps ≡ is_front qs
unfolding is_front
same_front_of ps qs none = refl
same_front_of ps qs (one p q rs us h more) = refl

-- brackets that are open
pub data AlikeOpen : Option Open → Option Open → Type 0 where
  closed : AlikeOpen None None
  opened : (k : BracketKind) (ps qs : List Piece) → AllAlike ps qs
      → AlikeOpen (Some (record { kind = k; before = ps })) (Some (record { kind = k; before = qs }))

open_role : (depth : ℕ) (role : Role) (ps qs : List Piece) → AllAlike ps qs
    → (f g : ℕ → Option Open) → ((d : ℕ) → AlikeOpen (f d) (g d))
    → AlikeOpen (open_behind depth role ps f) (open_behind depth role qs g)
unfolding open_behind
open_role zero (Opens k) ps qs h f g m = opened k ps qs h
open_role zero (Closes k) ps qs h f g m = m 1
open_role zero Continues ps qs h f g m = opened _ ps qs h
open_role zero Plain ps qs h f g m = m 0
open_role (suc depth) (Opens k) ps qs h f g m = m depth
open_role (suc depth) (Closes k) ps qs h f g m = m (suc (suc depth))
open_role (suc depth) Continues ps qs h f g m = m (suc depth)
open_role (suc depth) Plain ps qs h f g m = m (suc depth)

pub alike_open : (depth : ℕ) (ps qs : List Piece) → AllAlike ps qs → AlikeOpen (open_at depth ps) (open_at depth qs)
unfolding open_at
alike_open depth ps qs none = closed
alike_open depth ps qs (one p q rs us (same (blank s)) more) = alike_open depth rs us more
alike_open depth ps qs (one p q rs us (same (line_end s)) more) = alike_open depth rs us more
alike_open depth ps qs (one p q rs us (same (comment c s)) more) = alike_open depth rs us more
alike_open depth ps qs (one p q rs us (same (token k s)) more) =
    open_role depth (role_of k) rs us more (λ d. open_at d rs) (λ d. open_at d us) (λ d. alike_open d rs us more)
alike_open depth ps qs (one p q rs us (other s t i j) more) =
    open_role depth (role_of Str) rs us more (λ d. open_at d rs) (λ d. open_at d us) (λ d. alike_open d rs us more)

same_bracket : (a b : Option Open) → AlikeOpen a b → bracket_of a ≡ bracket_of b
same_bracket a b closed = refl
same_bracket a b (opened k ps qs h) = refl

same_open_headed : (a b : Option Open) → AlikeOpen a b → open_headed a ≡ open_headed b
same_open_headed a b closed = refl
same_open_headed a b (opened k ps qs h) = same_headed ps qs h

divides_same : (k : TokenKind) (a b c d e f : Bool) → a ≡ b → c ≡ d → e ≡ f
    → divides_behind (slash_rule k) a c e ≡ divides_behind (slash_rule k) b d f
divides_same k a b c d e f p q r =
    ap (λ z. divides_behind (slash_rule k) z c e) p ∙ (ap (λ z. divides_behind (slash_rule k) b z e) q
    ∙ ap (divides_behind (slash_rule k) b d) r)

same_divides : (ps qs : List Piece) → AllAlike ps qs → divides ps ≡ divides qs
unfolding divides
same_divides ps qs none = refl
same_divides ps qs (one p q rs us (same (blank s)) more) = same_divides rs us more
same_divides ps qs (one p q rs us (same (line_end s)) more) = same_divides rs us more
same_divides ps qs (one p q rs us (same (comment c s)) more) = same_divides rs us more
same_divides ps qs (one p q rs us (same (token k s)) more) =
    divides_same k _ _ _ _ _ _ (same_line rs us more) (same_divides rs us more)
    (same_open_headed (open_at 0 rs) (open_at 0 us) (alike_open 0 rs us more))
same_divides ps qs (one p q rs us (other s t i j) more) =
    divides_same Str _ _ _ _ _ _ (same_line rs us more) (same_divides rs us more)
    (same_open_headed (open_at 0 rs) (open_at 0 us) (alike_open 0 rs us more))

pub same_goal : (ps qs : List Piece) → AllAlike ps qs → goal_of ps ≡ goal_of qs
unfolding goal_of
same_goal ps qs h =
    let b = same_bracket (open_at 0 ps) (open_at 0 qs) (alike_open 0 ps qs h) in
    let d = same_divides ps qs h in
    let m = same_member ps qs h in
    let f = same_front_of ps qs h in cc

-- ---- pieces in a row
piece_moves : (goal : Goal) (p q : Piece) (a b : List ℕ) → Alike p q → Twin a b → IsPiece goal p a → IsPiece goal q b
piece_moves goal p q a b (same (blank s)) w h = h
piece_moves goal p q a b (same (line_end s)) w h = h
piece_moves goal p q a b (same (comment Line s)) w h = (h.0, sym (twin_ends a b w) ∙ h.1)
piece_moves goal p q a b (same (comment Block s)) w h = h
piece_moves goal p q a b (same (token k s)) w h = token_moves goal k s a b h w
piece_moves goal p q a b (other s t i j) w h = string_stands goal t b j

pub pieces_move : (before since ps qs : List Piece) → AllAlike before since → AllAlike ps qs → ArePieces before ps []
    → ArePieces since qs []
pieces_move before since ps qs b none h = tt
pieces_move before since ps qs b (one p q rs us e more) h = (
  subst (λ (g : Goal). IsPiece g q (pieces_text us ++ [])) (same_goal before since b)
      (piece_moves (goal_of before) p q (pieces_text rs ++ []) (pieces_text us ++ []) e
      (subst (Twin (pieces_text rs ++ [])) (sym (append-nil (pieces_text us)))
      (subst (λ (z : List ℕ). Twin z (pieces_text us)) (sym (append-nil (pieces_text rs))) (twin_texts rs us more)))
      h.0),
  pieces_move (p ∷ before) (q ∷ since) rs us (one p q before since e b) more h.1,
)

alike_behind : (before since ps qs : List Piece) → AllAlike before since → AllAlike ps qs
    → AllAlike (behind before ps) (behind since qs)
alike_behind before since ps qs b none = b
alike_behind before since ps qs b (one p q rs us e more) =
    alike_behind (p ∷ before) (q ∷ since) rs us (one p q before since e b) more

none_open : (a b : Option Open) → AlikeOpen a b → a ≡ None → b ≡ None
none_open a b closed e = refl
none_open a b (opened k ps qs h) e = cc

-- the text with other literals has the pieces with other literals
pub reads_alike : (x : List ℕ) (ts : List Token) (cs : List Comment) → (r : Reads x ts cs) → (qs : List Piece)
    → AllAlike r.pieces qs → Reads (pieces_text qs) (tokens_of [] qs) (comments_of [] qs)
reads_alike x ts cs r qs h = record {
  pieces = qs;
  whole = refl;
  each = pieces_move [] [] r.pieces qs none h r.each;
  all_closed = none_open (open_at 0 (behind [] r.pieces)) (open_at 0 (behind [] qs))
      (alike_open 0 _ _ (alike_behind [] [] r.pieces qs none h)) r.all_closed;
  tokens_are = refl;
  comments_are = refl;
}
