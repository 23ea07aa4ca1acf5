-- Other string literals in the place of string literals leave the keys of a text's tokens.
use Rattle.std.proofs.lemmas.Bool.{eq-eqb}
use Rattle.std.proofs.Common.{◌≡◌, ℕ, zero, suc, ◌+◌, Bool, true, false, ◌==◌, List, [], ◌∷◌, length, Option, Some, refl, sym, ◌∙◌, ap, arith, eqb-true}
use Rattle.es_token.specs.declared.token.Token.{Token}
use Rattle.es_token.specs.declared.token.Comment.{Comment}
use Rattle.es_token.specs.declared.token.TokenKind.{TokenKind}
use Rattle.es_token.specs.declared.token.TokenKind.TheVariants.{Str}
use Rattle.es_lexer.specs.declared.bracket.Role.{Role}
use Rattle.es_lexer.specs.declared.bracket.Role.TheVariants.{Opens, Closes, Continues, Plain}
use Rattle.es_lexer.specs.Brackets.{role_of}
use Rattle.es_lexer.specs.Pieces.{Piece, blank, line_end, comment, token, Open, comment_spelling, place_of, count_of, open_at, number_of, closer_by, closer_at, partner_of}
use Rattle.es_lexer.specs.Reads.{Reads, token_of, tokens_of}
use Rattle.grammar_theory.specs.Key.{key_of, keys_after, keys_of}
use Rattle.es_law_edits.proofs.tokens.Alike.{same, other, AllAlike, none, one, same_line, AlikeOpen, closed, opened, alike_open}

same_count : (ps qs : List Piece) → AllAlike ps qs → count_of ps ≡ count_of qs
unfolding count_of
same_count ps qs none = refl
same_count ps qs (one p q rs us (same (blank s)) more) = same_count rs us more
same_count ps qs (one p q rs us (same (line_end s)) more) = same_count rs us more
same_count ps qs (one p q rs us (same (comment c s)) more) = same_count rs us more
same_count ps qs (one p q rs us (same (token k s)) more) = ap (λ n. n + 1) (same_count rs us more)
same_count ps qs (one p q rs us (other s t i j) more) = ap (λ n. n + 1) (same_count rs us more)

same_number : (a b : Option Open) → AlikeOpen a b → number_of a ≡ number_of b
same_number a b closed = refl
same_number a b (opened k ps qs h) = ap Some (same_count ps qs h)

closer_role : (depth : ℕ) (role : Role) (number : ℕ) (f g : ℕ → Option ℕ) → ((d : ℕ) → f d ≡ g d)
    → closer_by depth role number f ≡ closer_by depth role number g
unfolding closer_by
closer_role zero (Opens k) number f g m = m 1
closer_role zero (Closes k) number f g m = refl
closer_role zero Continues number f g m = refl
closer_role zero Plain number f g m = m 0
closer_role (suc depth) (Opens k) number f g m = m (suc (suc depth))
closer_role (suc depth) (Closes k) number f g m = m depth
closer_role (suc depth) Continues number f g m = m (suc depth)
closer_role (suc depth) Plain number f g m = m (suc depth)

same_closer : (depth number : ℕ) (ps qs : List Piece) → AllAlike ps qs
    → closer_at depth number ps ≡ closer_at depth number qs
unfolding closer_at
same_closer depth number ps qs none = refl
same_closer depth number ps qs (one p q rs us (same (blank s)) more) = same_closer depth number rs us more
same_closer depth number ps qs (one p q rs us (same (line_end s)) more) = same_closer depth number rs us more
same_closer depth number ps qs (one p q rs us (same (comment c s)) more) = same_closer depth number rs us more
same_closer depth number ps qs (one p q rs us (same (token k s)) more) =
    closer_role depth (role_of k) number (λ d. closer_at d (number + 1) rs) (λ d. closer_at d (number + 1) us)
    (λ d. same_closer d (number + 1) rs us more)
same_closer depth number ps qs (one p q rs us (other s t i j) more) =
    closer_role depth (role_of Str) number (λ d. closer_at d (number + 1) rs) (λ d. closer_at d (number + 1) us)
    (λ d. same_closer d (number + 1) rs us more)

behind_same : (before since ps qs : List Piece) → AllAlike before since → AllAlike ps qs
    → closer_at 0 (count_of before + 1) ps ≡ closer_at 0 (count_of since + 1) qs
behind_same before since ps qs b h =
    ap (λ n. closer_at 0 (n + 1) ps) (same_count before since b) ∙ same_closer 0 (count_of since + 1) ps qs h

pub same_partner : (role : Role) (before since ps qs : List Piece) → AllAlike before since → AllAlike ps qs
    → partner_of role before ps ≡ partner_of role since qs
unfolding partner_of
same_partner (Opens k) before since ps qs b h = behind_same before since ps qs b h
same_partner (Closes k) before since ps qs b h =
    same_number (open_at 0 before) (open_at 0 since) (alike_open 0 before since b)
same_partner Continues before since ps qs b h = behind_same before since ps qs b h
same_partner Plain before since ps qs b h = refl

same_key : (adjacent adjoining : Bool) (before since ps qs : List Piece) (k : TokenKind) (s t : List ℕ)
    → adjacent ≡ adjoining
    → AllAlike before since → AllAlike ps qs
    → key_of adjacent (token_of before k s ps) ≡ key_of adjoining (token_of since k t qs)
same_key adjacent adjoining before since ps qs k s t e b h =
    let line = same_line before since b in
    let partner = same_partner (role_of k) before since ps qs b h in cc

-- ---- whether a token starts where the one before it ends
apart_by : (m e g : ℕ) (u v : Bool) → (m == e) ≡ u → (g == 0) ≡ v → m ≡ e + g → u ≡ v
apart_by m e g true true p q w = refl
apart_by m e g false false p q w = refl
apart_by m e g true false p q w =
    let same : m ≡ e = eqb-true m e p in
    let none : g ≡ 0 = omega arith in
    sym (ap (λ n. n == 0) none) ∙ q
apart_by m e g false true p q w =
    let none : g ≡ 0 = eqb-true g 0 q in
    let same : m ≡ e = omega arith in
    sym p ∙ eq-eqb m e same

same_apart : (m e n l g : ℕ) → m ≡ e + g → n ≡ l + g → (m == e) ≡ (n == l)
same_apart m e n l g p q =
    apart_by m e g (m == e) (g == 0) refl refl p ∙ sym (apart_by n l g (n == l) (g == 0) refl refl q)

keys_by : (k : TokenKind) (before since ps qs : List Piece) (end last gap : ℕ) (s t : List ℕ)
    → AllAlike before since → AllAlike ps qs → place_of before ≡ end + gap → place_of since ≡ last + gap
    → keys_after (place_of before + length s) (tokens_of (token k s ∷ before) ps)
    ≡ keys_after (place_of since + length t) (tokens_of (token k t ∷ since) qs)
    → keys_after end (token_of before k s ps ∷ tokens_of (token k s ∷ before) ps)
    ≡ keys_after last (token_of since k t qs ∷ tokens_of (token k t ∷ since) qs)
keys_by k before since ps qs end last gap s t b h m n more =
    let first = same_key (place_of before == end) (place_of since == last) before since ps qs k s t
    (same_apart (place_of before) end (place_of since) last gap m n) b h in cc

pub same_keys_after : (before since ps qs : List Piece) (end last gap : ℕ) → AllAlike before since → AllAlike ps qs
    → place_of before ≡ end + gap → place_of since ≡ last + gap
    → keys_after end (tokens_of before ps) ≡ keys_after last (tokens_of since qs)
unfolding tokens_of
same_keys_after before since ps qs end last gap b none m n = refl
same_keys_after before since ps qs end last gap b (one p q rs us (same (blank s)) more) m n =
    same_keys_after (blank s ∷ before) (blank s ∷ since) rs us end last (gap + length s)
    (one _ _ _ _ (same (blank s)) b) more
    (omega arith) (omega arith)
same_keys_after before since ps qs end last gap b (one p q rs us (same (line_end s)) more) m n =
    same_keys_after (line_end s ∷ before) (line_end s ∷ since) rs us end last (gap + length s)
    (one _ _ _ _ (same (line_end s)) b) more (omega arith) (omega arith)
same_keys_after before since ps qs end last gap b (one p q rs us (same (comment c s)) more) m n =
    same_keys_after (comment c s ∷ before) (comment c s ∷ since) rs us end last (gap + length (comment_spelling c s))
    (one _ _ _ _ (same (comment c s)) b) more (omega arith) (omega arith)
same_keys_after before since ps qs end last gap b (one p q rs us (same (token k s)) more) m n =
    keys_by k before since rs us end last gap s s b more m n
    (same_keys_after (token k s ∷ before) (token k s ∷ since) rs us (place_of before + length s)
    (place_of since + length s) 0
    (one _ _ _ _ (same (token k s)) b) more (omega arith) (omega arith))
same_keys_after before since ps qs end last gap b (one p q rs us (other s t i j) more) m n =
    keys_by Str before since rs us end last gap s t b more m n
    (same_keys_after (token Str s ∷ before) (token Str t ∷ since) rs us (place_of before + length s)
    (place_of since + length t) 0
    (one _ _ _ _ (other s t i j) b) more (omega arith) (omega arith))

-- the first token has none before it
first_by : (k : TokenKind) (before since ps qs : List Piece) (s t : List ℕ) → AllAlike before since → AllAlike ps qs
    → keys_after (place_of before + length s) (tokens_of (token k s ∷ before) ps)
    ≡ keys_after (place_of since + length t) (tokens_of (token k t ∷ since) qs)
    → keys_of (token_of before k s ps ∷ tokens_of (token k s ∷ before) ps)
    ≡ keys_of (token_of since k t qs ∷ tokens_of (token k t ∷ since) qs)
first_by k before since ps qs s t b h more =
    let first = same_key false false before since ps qs k s t refl b h in cc

pub same_keys : (before since ps qs : List Piece) → AllAlike before since → AllAlike ps qs
    → keys_of (tokens_of before ps) ≡ keys_of (tokens_of since qs)
unfolding tokens_of
same_keys before since ps qs b none = refl
same_keys before since ps qs b (one p q rs us (same (blank s)) more) =
    same_keys (blank s ∷ before) (blank s ∷ since) rs us (one _ _ _ _ (same (blank s)) b) more
same_keys before since ps qs b (one p q rs us (same (line_end s)) more) =
    same_keys (line_end s ∷ before) (line_end s ∷ since) rs us (one _ _ _ _ (same (line_end s)) b) more
same_keys before since ps qs b (one p q rs us (same (comment c s)) more) =
    same_keys (comment c s ∷ before) (comment c s ∷ since) rs us (one _ _ _ _ (same (comment c s)) b) more
same_keys before since ps qs b (one p q rs us (same (token k s)) more) =
    first_by k before since rs us s s b more
    (same_keys_after (token k s ∷ before) (token k s ∷ since) rs us (place_of before + length s)
    (place_of since + length s) 0
    (one _ _ _ _ (same (token k s)) b) more (omega arith) (omega arith))
same_keys before since ps qs b (one p q rs us (other s t i j) more) =
    first_by Str before since rs us s t b more
    (same_keys_after (token Str s ∷ before) (token Str t ∷ since) rs us (place_of before + length s)
    (place_of since + length t) 0
    (one _ _ _ _ (other s t i j) b) more (omega arith) (omega arith))

-- the law: the tokens of the text with other literals have the keys of the old ones
pub reads_keys : (x : List ℕ) (ts : List Token) (cs : List Comment) → (r : Reads x ts cs) → (qs : List Piece)
    → AllAlike r.pieces qs → keys_of ts ≡ keys_of (tokens_of [] qs)
reads_keys x ts cs r qs h = ap keys_of r.tokens_are ∙ same_keys [] [] r.pieces qs none h
