-- A look finds a piece or a fault, and each piece and each fault is what a look at it finds.
use Rattle.std.proofs.Common.{◌≡◌, ℕ, zero, suc, ◌+◌, ◌-◌, ◌<◌, ◌≤◌, Bool, true, false, not, ◌==◌, ◌||◌, ◌&&◌, List, [], ◌∷◌, ◌++◌, length, take, drop, drop_at, Option, Some, None, refl, sym, ◌∙◌, ap, subst, arith, take_at, length-append, append_assoc, eqb-true, eq-eqb, true≢false, if◌then◌else◌, inl, inr}
use Rattle.std.proofs.lemmas.List.{nil_from_length}
use Rattle.es_lexer.specs.declared.bracket.BracketKind.{BracketKind}
use Rattle.es_lexer.specs.declared.bracket.Role.{Role}
use Rattle.es_lexer.specs.declared.bracket.Role.TheVariants.{Opens, Closes, Continues, Plain}
use Rattle.es_lexer.specs.declared.bytes.First.{First}
use Rattle.es_lexer.specs.declared.bytes.First.TheVariants as first
use Rattle.es_lexer.specs.declared.goal.Goal.{Goal}
use Rattle.es_lexer.specs.declared.look.Look.{Look}
use Rattle.es_lexer.specs.declared.look.Look.TheVariants as look
use Rattle.es_lexer.specs.declared.signs.Sign.{Sign}
use Rattle.es_token.specs.declared.token.TokenKind.{TokenKind}
use Rattle.es_token.specs.declared.token.TokenKind.TheVariants as kind
use Rattle.es_token.specs.declared.token.CommentKind.{CommentKind}
use Rattle.es_token.specs.declared.token.CommentKind.TheVariants.{Line, Block}
use Rattle.es_lexer.specs.declared.error.LexicalKind.{LexicalKind}
use Rattle.es_lexer.specs.declared.error.LexicalKind.TheVariants.{UnterminatedString, UnterminatedComment, UnterminatedTemplate, UnterminatedRegExp, InvalidEscape, InvalidChar, Unbalanced}
use Rattle.es_lexer.specs.Bytes.{joins, part_unit, word_unit, begins_name, begins_mark, begins_backslash, first_of, is_start, begins_comment, has_closer, has_line_end, ends_line}
use Rattle.es_lexer.specs.declared.bracket.BracketKind.TheVariants.{Round, Square, Curly, Template}
use Rattle.es_lexer.specs.Brackets.{role_of, is_open, may_close}
use Rattle.es_lexer.specs.Signs.{sign_kind, sign_at, sized}
use Rattle.es_lexer.specs.Words.{kind_at}
use Rattle.es_literal.specs.declared.string.StringEnd.{StringEnd}
use Rattle.es_literal.specs.Strings.{IsString, IsStringEnd, closes, invalid, unclosed as cut, Begins, begins_quote, string_end}
use Rattle.es_literal.proofs.StringLemmas as literal
use Rattle.es_literal.specs.spelling.Units.{concat}
use Rattle.es_lexer.specs.Spelling.{Spells, word, str, sign, private_name, template, number, regexp as expression, shebang, number_kind, AreParts, IsWord, IsRegExp, template_start, template_stop, template_kind}
use Rattle.es_literal.specs.spelling.RegExps.{IsBody, body_end}
use Rattle.es_literal.proofs.spelling_lemmas.RegExpLemmas as pattern
use Rattle.es_literal.specs.declared.spelling.template.TemplateEnd.{TemplateEnd}
use Rattle.es_literal.specs.declared.spelling.template.TemplateEnd.TheVariants.{Closes}
use Rattle.es_literal.specs.spelling.Templates.{template_end, IsTemplateText, IsUnclosed}
use Rattle.std.specs.Char.{is_ascii_digit}
use Rattle.es_literal.specs.declared.spelling.number.NumberEnd.{NumberEnd}
use Rattle.es_literal.specs.spelling.Numbers.{IsNumber, number_end, begins_number, is_digit}
use Rattle.es_literal.specs.spelling.Numbers as numeral
use Rattle.es_literal.proofs.spelling_lemmas.NumberLemmas as digits
use Rattle.es_literal.proofs.spelling_lemmas.TemplateLemmas as text
use Rattle.es_lexer.specs.Goal.{allows, may_stand, stands_apart, begins_digit}
use Rattle.es_lexer.specs.Pieces.{Piece, blank, line_end, comment, token, spelling, comment_spelling}
use Rattle.es_lexer.specs.Readable.{IsLongest, IsToken, IsComment, IsByte, IsPiece}
use Rattle.es_lexer.specs.Stops.{Stuck, open_string, bad_escape, open_comment, no_token, no_character, open_regexp, wrong_closer, lone_hash, open_template, joined, IsLongestNumber, open_bracket, bad_name, bad_private, backslash_fault, BeginsNoBody, BeginsSign}
use Rattle.es_lexer.specs.Look.{line_stop, word_end, flags_end, word_look, string_look, sign_look, regexp_look, divide_look, slash_look, template_look, number_stop, number_look, dot_look, brace_look, name_look, wide_look, backslash_look, hash_look, class_look, end_look, look_at}
use Rattle.es_lexer.proofs.ByteLemmas.{start_is, wide_class, no_mark_by, quote_class, quote_is, slash_is, slash_class, backtick_is, backtick_class, brace_is, brace_class, hash_is, hash_class, backslash_is, backslash_class, digit_is, digit_class, dot_is, dot_class, no_comment_at}
use Rattle.es_lexer.proofs.LineLemmas.{or_left, or_right, Run, run, in_line_back, line_passed}
use Rattle.es_lexer.proofs.PartLemmas.{not_zero, Parts, word_parts, flag_parts, word_pass, flags_pass, word_ends, flags_ends, letter, character, escaped, name_class, name_more, name_front, name_no_comment}
use Rattle.es_unicode.specs.Wide.{wide_size, wide_blank, wide_line, is_separator}
use Rattle.es_unicode.proofs.WideLemmas as wide
use Rattle.es_lexer.proofs.CommentLemmas as remark
use Rattle.es_lexer.proofs.SignLemmas as mark
use Rattle.es_lexer.proofs.WordLemmas.{word_free, free_allows, free_apart}

-- what a look at a piece answers
abbrev pub reading_of : ℕ → Piece → Look
reading_of at (blank s) = look.Blank (at + length s)
reading_of at (line_end s) = look.LineEnd (at + length s)
reading_of at (comment kind text) = look.Comment kind (at + length (comment_spelling kind text)) (has_line_end text)
reading_of at (token k s) = look.Token k (at + length s)

both_left : (u v : Bool) → (u && v) ≡ true → u ≡ true
both_left true v e = refl
both_left false v e = cc

both_right : (u v : Bool) → (u && v) ≡ true → v ≡ true
both_right true v e = e
both_right false v e = cc

-- ---- a token that may stand there is found, or a longer one
pub data Reached (k : TokenKind) (end : ℕ) (found : Look) : Type 0 where
  reached : (j : TokenKind) (m : ℕ) → found ≡ look.Token j m → end ≤ m → (end ≡ m → k ≡ j) → Reached k end found

-- a name's look
word_looks : (member : Bool) (at : ℕ) (text : List ℕ) (end : ℕ) → word_end at text ≡ end
    → word_look member at text ≡ look.Token (kind_at member (take (end - at) text)) end
unfolding word_look
word_looks member at text end e = rw e refl

wide_looks : (goal : Goal) (at b : ℕ) (rest : List ℕ) → first_of b ≡ first.Wide
    → look_at goal at (b ∷ rest) ≡ wide_look goal at (b ∷ rest)
unfolding look_at class_look
wide_looks goal at b rest f = rw f refl

start_looks : (goal : Goal) (at b : ℕ) (rest : List ℕ) → first_of b ≡ first.Start
    → look_at goal at (b ∷ rest) ≡ word_look goal.member at (b ∷ rest)
unfolding look_at class_look
start_looks goal at b rest f = rw f refl

char_looks : (goal : Goal) (at : ℕ) (text : List ℕ) (n : ℕ) → wide_size text ≡ n → 0 < n
    → wide_look goal at text ≡ word_look goal.member at text
unfolding wide_look
char_looks goal at text zero e l = absurd (omega arith)
char_looks goal at text (suc n) e l = rw (e, not_zero (suc n) (omega arith)) refl

name_backslash : (goal : Goal) (at : ℕ) (text : List ℕ) → begins_name text ≡ true
    → backslash_look goal at text ≡ word_look goal.member at text
unfolding backslash_look
name_backslash goal at text e = rw e refl

backslash_looks : (goal : Goal) (at b : ℕ) (rest : List ℕ) → first_of b ≡ first.Backslash
    → look_at goal at (b ∷ rest) ≡ backslash_look goal at (b ∷ rest)
unfolding look_at class_look
backslash_looks goal at b rest f = rw f refl

name_looks : (goal : Goal) (at : ℕ) (text : List ℕ) → begins_name text ≡ true
    → look_at goal at text ≡ word_look goal.member at text
unfolding begins_name
name_looks goal at [] e = cc
name_looks goal at (b ∷ rest) e = elim (name_class b rest e) [
  | letter f ↦ start_looks goal at b rest f
  | character f l ↦ wide_looks goal at b rest f ∙ char_looks goal at (b ∷ rest) (wide_size (b ∷ rest)) refl l
  | escaped f n s ↦ backslash_looks goal at b rest f ∙ name_backslash goal at (b ∷ rest) e
]

-- a string literal's look
string_looks : (goal : Goal) (at b : ℕ) (rest : List ℕ) → first_of b ≡ first.Quote
    → look_at goal at (b ∷ rest) ≡ string_look at (string_end at (b ∷ rest))
unfolding look_at class_look
string_looks goal at b rest f = rw f refl

string_reads : (goal : Goal) (at : ℕ) (s after : List ℕ) → IsString s
    → look_at goal at (s ++ after) ≡ look.Token kind.Str (at + length s)
unfolding string_look
string_reads goal at s after l =
    let here : look_at goal at (s ++ after) ≡ string_look at (string_end at (s ++ after)) =
    subst (λ (t : List ℕ). look_at goal at (t ++ after) ≡ string_look at (string_end at (t ++ after))) (sym l.whole)
    (string_looks goal at l.quote ((concat l.units ++ l.quote ∷ []) ++ after) (quote_class l.quote l.quotes)) in
    here ∙ ap (string_look at) (literal.closes_found at s after l)

plain_closes : (bracket : Option BracketKind) (r : Role) → mark.is_plain_role r ≡ true → may_close bracket r ≡ true
unfolding may_close
plain_closes bracket (Opens k) e = cc
plain_closes bracket (Closes k) e = cc
plain_closes bracket Continues e = cc
plain_closes bracket Plain e = refl

sign_reaches_by : (bracket : Option BracketKind) (at : ℕ) (k : TokenKind) (n : ℕ) (found : Option Sign)
    → mark.SignReached k n found → may_close bracket (role_of k) ≡ true
    → Reached k (at + n) (sign_look bracket at found)
unfolding sign_look
sign_reaches_by bracket at k n found (mark.same e) c = rw e (rw c (reached k (at + n) refl (omega arith) (λ e. refl)))
sign_reaches_by bracket at k n found (mark.longer j m e l p) c =
    rw e (rw (plain_closes bracket (role_of j) p)
    (reached j (at + m) refl (omega arith) (λ q. absurd (omega arith))))

-- what stands behind a punctuator
chain_may : (regexp : Bool) (k : TokenKind) (after : List ℕ) → may_stand regexp k after ≡ true → mark.ChainFits k after
unfolding may_stand
chain_may regexp kind.QuestionDot after e = λ c. remark.not_true (begins_digit after) e
chain_may regexp k after e = λ c. cc

dot_may : (regexp : Bool) (k : TokenKind) (after : List ℕ) → mark.is_dot k ≡ true → may_stand regexp k after ≡ true
    → begins_digit after ≡ false
unfolding may_stand
dot_may regexp kind.Dot after s e = remark.not_true (begins_digit after) e
dot_may regexp k after s e = cc

slash_may : (regexp : Bool) (k : TokenKind) (after : List ℕ) → mark.is_slash k ≡ true → may_stand regexp k after ≡ true
    → regexp ≡ false
unfolding may_stand
slash_may regexp kind.Slash after s e = remark.not_true regexp e
slash_may regexp kind.SlashEqual after s e = remark.not_true regexp e
slash_may regexp k after s e = cc

slash_looks : (goal : Goal) (at : ℕ) (rest : List ℕ) → look_at goal at (47 ∷ rest) ≡ slash_look goal at rest
unfolding look_at class_look
slash_looks goal at rest = rw slash_class refl

-- a `/` that begins no comment
no_comment_divides : (goal : Goal) (at : ℕ) (rest : List ℕ) → begins_comment (47 ∷ rest) ≡ false
    → slash_look goal at rest ≡ divide_look goal at rest
unfolding slash_look begins_comment
no_comment_divides goal at [] n = refl
no_comment_divides goal at (c ∷ rest) n =
    rw (or_left (c == 47) (c == 42) n, or_right (c == 47) (c == 42) n) refl

divides_is : (goal : Goal) (at : ℕ) (rest : List ℕ) → goal.regexp ≡ false
    → divide_look goal at rest ≡ sign_look goal.bracket at (sign_at (47 ∷ rest))
unfolding divide_look
divides_is goal at rest e = rw e refl

divides_not : (goal : Goal) (at : ℕ) (rest : List ℕ) → goal.regexp ≡ true
    → divide_look goal at rest ≡ regexp_look at (body_end (at + 1) rest) rest
unfolding divide_look
divides_not goal at rest e = rw e refl

-- where a closing brace may stand, no template goes on
curly_no_template : (bracket : Option BracketKind) (r : Role) → r ≡ Closes Curly → may_close bracket r ≡ true
    → is_open bracket Template ≡ false
unfolding may_close is_open
curly_no_template bracket (Opens k) e c = cc
curly_no_template bracket Continues e c = cc
curly_no_template bracket Plain e c = cc
curly_no_template None (Closes Round) e c = cc
curly_no_template None (Closes Square) e c = cc
curly_no_template None (Closes Curly) e c = refl
curly_no_template None (Closes Template) e c = cc
curly_no_template (Some Round) (Closes k) e c = refl
curly_no_template (Some Square) (Closes k) e c = refl
curly_no_template (Some Curly) (Closes k) e c = refl
curly_no_template (Some Template) (Closes Round) e c = cc
curly_no_template (Some Template) (Closes Square) e c = cc
curly_no_template (Some Template) (Closes Curly) e c = cc
curly_no_template (Some Template) (Closes Template) e c = cc

brace_shut : (goal : Goal) (at : ℕ) (rest : List ℕ) → is_open goal.bracket Template ≡ false
    → brace_look goal at rest ≡ sign_look goal.bracket at (sign_at (125 ∷ rest))
unfolding brace_look
brace_shut goal at rest e = rw e refl

brace_open : (goal : Goal) (at : ℕ) (rest : List ℕ) → is_open goal.bracket Template ≡ true
    → brace_look goal at rest ≡ template_look false at (template_end (at + 1) rest)
unfolding brace_look
brace_open goal at rest e = rw e refl

brace_looks : (goal : Goal) (at b : ℕ) (rest : List ℕ) → first_of b ≡ first.Brace
    → look_at goal at (b ∷ rest) ≡ brace_look goal at rest
unfolding look_at class_look
brace_looks goal at b rest f = rw f refl

brace_same : (goal : Goal) (at b : ℕ) (rest : List ℕ) → first_of b ≡ first.Brace → is_open goal.bracket Template ≡ false
    → look_at goal at (b ∷ rest) ≡ sign_look goal.bracket at (sign_at (b ∷ rest))
brace_same goal at b rest f e =
    brace_looks goal at b rest f ∙ (brace_shut goal at rest e
    ∙ ap (λ c. sign_look goal.bracket at (sign_at (c ∷ rest))) (sym (brace_is b f)))

-- a point without a digit behind it
point_kind : (b : ℕ) (k : TokenKind) → b ≡ 46 → sign_kind (b ∷ []) ≡ Some k → mark.is_dot k ≡ true
point_kind b k e w = mark.point_is_dot k (ap (λ c. sign_kind (c ∷ [])) (sym e) ∙ w)

dot_sign : (goal : Goal) (at : ℕ) (rest : List ℕ) → begins_digit rest ≡ false
    → dot_look goal at rest ≡ sign_look goal.bracket at (sign_at (46 ∷ rest))
unfolding dot_look
dot_sign goal at rest e = rw e refl

dot_number : (goal : Goal) (at : ℕ) (rest : List ℕ) → begins_digit rest ≡ true
    → dot_look goal at rest ≡ number_look at (46 ∷ rest)
unfolding dot_look
dot_number goal at rest e = rw e refl

dot_looks : (goal : Goal) (at b : ℕ) (rest : List ℕ) → first_of b ≡ first.Dot
    → look_at goal at (b ∷ rest) ≡ dot_look goal at rest
unfolding look_at class_look
dot_looks goal at b rest f = rw f refl

dot_same : (goal : Goal) (at b : ℕ) (rest : List ℕ) → first_of b ≡ first.Dot → begins_digit rest ≡ false
    → look_at goal at (b ∷ rest) ≡ sign_look goal.bracket at (sign_at (b ∷ rest))
dot_same goal at b rest f e =
    dot_looks goal at b rest f ∙ (dot_sign goal at rest e
    ∙ ap (λ c. sign_look goal.bracket at (sign_at (c ∷ rest))) (sym (dot_is b f)))

-- no digit stands behind the point of a punctuator
point_ends : (regexp : Bool) (b : ℕ) (rest after : List ℕ) (k : TokenKind) → b ≡ 46 → sign_kind (b ∷ rest) ≡ Some k
    → may_stand regexp k after ≡ true → begins_digit (rest ++ after) ≡ false
unfolding begins_digit
point_ends regexp b [] after k e w m = dot_may regexp k after (point_kind b k e w) m
point_ends regexp b (c ∷ rest) after k e w m =
    remark.not_true (is_ascii_digit c) (mark.dots_go_on b c rest k w e)

slash_same : (goal : Goal) (at b : ℕ) (rest : List ℕ) → first_of b ≡ first.Slash → begins_comment (b ∷ rest) ≡ false
    → goal.regexp ≡ false → look_at goal at (b ∷ rest) ≡ sign_look goal.bracket at (sign_at (b ∷ rest))
unfolding look_at class_look
slash_same goal at b rest f n r =
    let e : b ≡ 47 = slash_is b f in
    rw f (no_comment_divides goal at rest (subst (λ (c : ℕ). begins_comment (c ∷ rest) ≡ false) e n)
    ∙ (divides_is goal at rest r ∙ ap (λ c. sign_look goal.bracket at (sign_at (c ∷ rest))) (sym e)))

sign_reaches_class : (goal : Goal) (at b : ℕ) (rest after : List ℕ) (k : TokenKind) (c : First) → first_of b ≡ c
    → mark.is_sign_class c ≡ true → sign_kind (b ∷ rest) ≡ Some k → allows goal k after ≡ true
    → begins_comment ((b ∷ rest) ++ after) ≡ false
    → Reached k (at + length (b ∷ rest)) (look_at goal at ((b ∷ rest) ++ after))
unfolding look_at class_look allows
sign_reaches_class goal at b rest after k first.Slash f i w a n =
    let e : b ≡ 47 = slash_is b f in
    let close : may_close goal.bracket (role_of k) ≡ true =
    both_left (may_close goal.bracket (role_of k)) (may_stand goal.regexp k after) a in
    let stand : may_stand goal.regexp k after ≡ true =
    both_right (may_close goal.bracket (role_of k)) (may_stand goal.regexp k after) a in
    let divides : goal.regexp ≡ false = slash_may goal.regexp k after (mark.slash_is_slash b rest k w e) stand in
    let found : mark.SignReached k (length (b ∷ rest)) (sign_at ((b ∷ rest) ++ after)) =
    mark.sign_reaches (b ∷ rest) after k w (chain_may goal.regexp k after stand) in
    let same : look_at goal at ((b ∷ rest) ++ after) ≡ sign_look goal.bracket at (sign_at ((b ∷ rest) ++ after)) =
    slash_same goal at b (rest ++ after) f n divides in
    subst (Reached k (at + length (b ∷ rest))) (sym same)
    (sign_reaches_by goal.bracket at k (length (b ∷ rest)) _ found close)
sign_reaches_class goal at b rest after k first.Other f i w a n =
    let close : may_close goal.bracket (role_of k) ≡ true =
    both_left (may_close goal.bracket (role_of k)) (may_stand goal.regexp k after) a in
    let stand : may_stand goal.regexp k after ≡ true =
    both_right (may_close goal.bracket (role_of k)) (may_stand goal.regexp k after) a in
    rw f (sign_reaches_by goal.bracket at k (length (b ∷ rest)) _
    (mark.sign_reaches (b ∷ rest) after k w (chain_may goal.regexp k after stand)) close)
sign_reaches_class goal at b rest after k first.Brace f i w a n =
    let e : b ≡ 125 = brace_is b f in
    let close : may_close goal.bracket (role_of k) ≡ true =
    both_left (may_close goal.bracket (role_of k)) (may_stand goal.regexp k after) a in
    let stand : may_stand goal.regexp k after ≡ true =
    both_right (may_close goal.bracket (role_of k)) (may_stand goal.regexp k after) a in
    let shut : is_open goal.bracket Template ≡ false =
    curly_no_template goal.bracket (role_of k) (mark.brace_role b rest k w e) close in
    let found : mark.SignReached k (length (b ∷ rest)) (sign_at ((b ∷ rest) ++ after)) =
    mark.sign_reaches (b ∷ rest) after k w (chain_may goal.regexp k after stand) in
    subst (Reached k (at + length (b ∷ rest))) (sym (brace_same goal at b (rest ++ after) f shut))
    (sign_reaches_by goal.bracket at k (length (b ∷ rest)) _ found close)
sign_reaches_class goal at b rest after k first.Dot f i w a n =
    let e : b ≡ 46 = dot_is b f in
    let close : may_close goal.bracket (role_of k) ≡ true =
    both_left (may_close goal.bracket (role_of k)) (may_stand goal.regexp k after) a in
    let stand : may_stand goal.regexp k after ≡ true =
    both_right (may_close goal.bracket (role_of k)) (may_stand goal.regexp k after) a in
    let found : mark.SignReached k (length (b ∷ rest)) (sign_at ((b ∷ rest) ++ after)) =
    mark.sign_reaches (b ∷ rest) after k w (chain_may goal.regexp k after stand) in
    subst (Reached k (at + length (b ∷ rest)))
    (sym (dot_same goal at b (rest ++ after) f (point_ends goal.regexp b rest after k e w stand)))
    (sign_reaches_by goal.bracket at k (length (b ∷ rest)) _ found close)
sign_reaches_class goal at b rest after k first.Digit f i w a n = cc
sign_reaches_class goal at b rest after k first.Backtick f i w a n = cc
sign_reaches_class goal at b rest after k first.Hash f i w a n = cc
sign_reaches_class goal at b rest after k first.Blank f i w a n = cc
sign_reaches_class goal at b rest after k first.LineEnd f i w a n = cc
sign_reaches_class goal at b rest after k first.Start f i w a n = cc
sign_reaches_class goal at b rest after k first.Backslash f i w a n = cc
sign_reaches_class goal at b rest after k first.Wide f i w a n = cc
sign_reaches_class goal at b rest after k first.Quote f i w a n = cc

word_reaches : (goal : Goal) (at : ℕ) (k : TokenKind) (s after : List ℕ) → IsWord s → k ≡ kind_at goal.member s
    → Parts word_unit (at + length s) after → Reached k (at + length s) (look_at goal at (s ++ after))
word_reaches goal at k s after w e r =
    let end : word_end at (s ++ after) ≡ at + length s + length r.front =
    word_pass at s after w.goes_on ∙ word_ends (at + length s) after r in
    reached (kind_at goal.member (take (at + length s + length r.front - at) (s ++ after)))
    (at + length s + length r.front)
    (name_looks goal at (s ++ after) (name_more s after w.starts)
    ∙ word_looks goal.member at (s ++ after) (at + length s + length r.front) end)
    (omega arith)
    (λ q. e ∙ ap (kind_at goal.member)
    (sym (take_at s after (at + length s + length r.front - at) (omega arith))))

string_reaches : (goal : Goal) (at : ℕ) (k : TokenKind) (s after : List ℕ) → IsString s → k ≡ kind.Str
    → Reached k (at + length s) (look_at goal at (s ++ after))
string_reaches goal at k s after l e =
    reached kind.Str (at + length s) (string_reads goal at s after l) (omega arith) (λ q. e)

-- a template, or what goes on in one
tick_looks : (goal : Goal) (at b : ℕ) (rest : List ℕ) → first_of b ≡ first.Backtick
    → look_at goal at (b ∷ rest) ≡ template_look true at (template_end (at + 1) rest)
unfolding look_at class_look
tick_looks goal at b rest f = rw f refl

hash_looks : (goal : Goal) (at b : ℕ) (rest : List ℕ) → first_of b ≡ first.Hash
    → look_at goal at (b ∷ rest) ≡ hash_look goal.front at rest
unfolding look_at class_look
hash_looks goal at b rest f = rw f refl

template_ends : (opens sub : Bool) (at : ℕ) (body after : List ℕ) → IsTemplateText (template_stop sub) body
    → template_look opens at (template_end (at + 1) (body ++ after))
    ≡ look.Token (template_kind opens sub) (at + 1 + length body)
unfolding template_look template_stop
template_ends opens true at body after t = ap (template_look opens at) (text.substitutes_found (at + 1) body after t)
template_ends opens false at body after t = ap (template_look opens at) (text.closes_found (at + 1) body after t)

goes_on : (bracket : Option BracketKind) (sub : Bool) (regexp : Bool) (after : List ℕ)
    → (may_close bracket (role_of (template_kind false sub)) && may_stand regexp (template_kind false sub) after) ≡ true
    → is_open bracket Template ≡ true
unfolding template_kind role_of may_close
goes_on bracket true regexp after e = both_left (is_open bracket Template) _ e
goes_on bracket false regexp after e = both_left (is_open bracket Template) _ e

template_looks : (goal : Goal) (at : ℕ) (opens sub : Bool) (rest after : List ℕ)
    → allows goal (template_kind opens sub) after ≡ true
    → look_at goal at (template_start opens ∷ rest) ≡ template_look opens at (template_end (at + 1) rest)
unfolding template_start allows
template_looks goal at true sub rest after a = tick_looks goal at 96 rest backtick_class
template_looks goal at false sub rest after a =
    brace_looks goal at 125 rest brace_class
    ∙ brace_open goal at rest (goes_on goal.bracket sub goal.regexp after a)

template_reaches : (goal : Goal) (at : ℕ) (k : TokenKind) (s after : List ℕ) (opens sub : Bool) (body : List ℕ)
    → IsTemplateText (template_stop sub) body → s ≡ template_start opens ∷ body → k ≡ template_kind opens sub
    → allows goal k after ≡ true → Reached k (at + length s) (look_at goal at (s ++ after))
template_reaches goal at k s after opens sub body t w e a =
    let al : allows goal (template_kind opens sub) after ≡ true =
    subst (λ (j : TokenKind). allows goal j after ≡ true) e a in
    let found : look_at goal at (template_start opens ∷ (body ++ after))
    ≡ look.Token (template_kind opens sub) (at + 1 + length body) =
    template_looks goal at opens sub (body ++ after) after al ∙ template_ends opens sub at body after t in
    let size : length s ≡ length (template_start opens ∷ body) = ap length w in
    reached (template_kind opens sub) (at + 1 + length body)
    (ap (λ v. look_at goal at (v ++ after)) w ∙ found) (omega arith) (λ q. e)

-- a private name
hash_names : (front : Bool) (at b : ℕ) (rest : List ℕ) → (front && b == 33) ≡ false
    → hash_look front at (b ∷ rest) ≡ name_look at (b ∷ rest)
unfolding hash_look
hash_names front at b rest n = rw n refl

name_starts : (at : ℕ) (text : List ℕ) → begins_name text ≡ true
    → name_look at text ≡ look.Token kind.PrivateName (word_end (at + 1) text)
unfolding name_look
name_starts at text e = rw e refl

name_no_mark : (front : Bool) (b : ℕ) (rest : List ℕ) → begins_name (b ∷ rest) ≡ true → (front && b == 33) ≡ false
name_no_mark front b rest e = elim (name_class b rest e) [
  | letter f ↦ no_mark_by front b first.Start f (λ g. cc)
  | character f l ↦ no_mark_by front b first.Wide f (λ g. cc)
  | escaped f n s ↦ no_mark_by front b first.Backslash f (λ g. cc)
]

hash_ends : (front : Bool) (at : ℕ) (text : List ℕ) → begins_name text ≡ true
    → hash_look front at text ≡ look.Token kind.PrivateName (word_end (at + 1) text)
unfolding begins_name
hash_ends front at [] e = cc
hash_ends front at (b ∷ rest) e =
    hash_names front at b rest (name_no_mark front b rest e) ∙ name_starts at (b ∷ rest) e

-- a shebang
hash_marks : (front : Bool) (at : ℕ) (rest : List ℕ) → front ≡ true
    → hash_look front at (33 ∷ rest) ≡ look.Token kind.Shebang (line_stop (at + 2) rest)
unfolding hash_look
hash_marks front at rest f = rw f refl

shebang_looks : (goal : Goal) (at : ℕ) (rest : List ℕ) → goal.front ≡ true
    → look_at goal at (35 ∷ 33 ∷ rest) ≡ look.Token kind.Shebang (line_stop (at + 2) rest)
shebang_looks goal at rest f = hash_looks goal at 35 (33 ∷ rest) hash_class ∙ hash_marks goal.front at rest f

shebang_may : (goal : Goal) (k : TokenKind) (after : List ℕ) → k ≡ kind.Shebang → allows goal k after ≡ true
    → ends_line after ≡ true
unfolding allows may_stand
shebang_may goal k after e a =
    both_right (may_close goal.bracket (role_of kind.Shebang)) (ends_line after)
    (subst (λ (j : TokenKind). (may_close goal.bracket (role_of j) && may_stand goal.regexp j after) ≡ true) e a)

shebang_reaches : (goal : Goal) (at : ℕ) (k : TokenKind) (s after text : List ℕ) → has_line_end text ≡ false
    → goal.front ≡ true → s ≡ 35 ∷ 33 ∷ text → k ≡ kind.Shebang → allows goal k after ≡ true
    → Reached k (at + length s) (look_at goal at (s ++ after))
shebang_reaches goal at k s after text h f q e a =
    let size : length s ≡ length (35 ∷ 33 ∷ text) = ap length q in
    reached kind.Shebang (at + 2 + length text)
    (ap (λ v. look_at goal at (v ++ after)) q
    ∙ (shebang_looks goal at (text ++ after) f
    ∙ ap (λ n. look.Token kind.Shebang n) (line_passed (at + 2) text after h (shebang_may goal k after e a))))
    (omega arith) (λ p. e)

private_reaches : (goal : Goal) (at : ℕ) (k : TokenKind) (s after name : List ℕ) → (w : IsWord name) → s ≡ 35 ∷ name
    → k ≡ kind.PrivateName → Parts word_unit (at + 1 + length name) after
    → Reached k (at + length s) (look_at goal at (s ++ after))
private_reaches goal at k s after name w q e r =
    let size : length s ≡ length (35 ∷ name) = ap length q in
    let end : word_end (at + 1) (name ++ after) ≡ at + 1 + length name + length r.front =
    word_pass (at + 1) name after w.goes_on ∙ word_ends (at + 1 + length name) after r in
    reached kind.PrivateName (at + 1 + length name + length r.front)
    (ap (λ v. look_at goal at (v ++ after)) q
    ∙ (hash_looks goal at 35 (name ++ after) hash_class
    ∙ (hash_ends goal.front at (name ++ after) (name_more name after w.starts)
    ∙ ap (λ n. look.Token kind.PrivateName n) end)))
    (omega arith) (λ p. e)

-- a regular expression
regexp_looks : (goal : Goal) (at : ℕ) (rest : List ℕ) → begins_comment (47 ∷ rest) ≡ false → goal.regexp ≡ true
    → look_at goal at (47 ∷ rest) ≡ regexp_look at (body_end (at + 1) rest) rest
regexp_looks goal at rest n r =
    slash_looks goal at rest ∙ (no_comment_divides goal at rest n ∙ divides_not goal at rest r)

body_reads : (at : ℕ) (body after : List ℕ) → IsBody body
    → regexp_look at (body_end (at + 1) (body ++ after)) (body ++ after)
    ≡ look.Token kind.RegExp (flags_end (at + 1 + length body) after)
unfolding regexp_look
body_reads at body after i =
    ap (λ found. regexp_look at found (body ++ after)) (pattern.body_found (at + 1) body after i)
    ∙ ap (λ t. look.Token kind.RegExp (flags_end (at + 1 + length body) t))
    (drop_at body after (at + 1 + length body - (at + 1)) (omega arith))

regexp_reads : (goal : Goal) (at : ℕ) (body flags after : List ℕ) → IsBody body
    → begins_comment (47 ∷ (body ++ (flags ++ after))) ≡ false → goal.regexp ≡ true → AreParts part_unit flags
    → (r : Parts part_unit (at + 1 + length body + length flags) after)
    → look_at goal at (47 ∷ (body ++ (flags ++ after)))
    ≡ look.Token kind.RegExp (at + 1 + length body + length flags + length r.front)
regexp_reads goal at body flags after i n g h r =
    regexp_looks goal at (body ++ (flags ++ after)) n g
    ∙ (body_reads at body (flags ++ after) i
    ∙ ap (λ e. look.Token kind.RegExp e)
    (flags_pass (at + 1 + length body) flags after h ∙ flags_ends (at + 1 + length body + length flags) after r))

regexp_may : (goal : Goal) (k : TokenKind) (after : List ℕ) → k ≡ kind.RegExp → allows goal k after ≡ true
    → goal.regexp ≡ true
unfolding allows may_stand
regexp_may goal k after e a =
    both_right (may_close goal.bracket (role_of kind.RegExp)) goal.regexp
    (subst (λ (j : TokenKind). (may_close goal.bracket (role_of j) && may_stand goal.regexp j after) ≡ true) e a)

regexp_reaches : (goal : Goal) (at : ℕ) (k : TokenKind) (s after : List ℕ) → (i : IsRegExp s) → k ≡ kind.RegExp
    → allows goal k after ≡ true → begins_comment (s ++ after) ≡ false
    → Parts part_unit (at + 1 + length i.body + length i.flags) after
    → Reached k (at + length s) (look_at goal at (s ++ after))
regexp_reaches goal at k s after i e a n r =
    let cut : s ++ after ≡ 47 ∷ (i.body ++ (i.flags ++ after)) =
    ap (λ t. t ++ after) i.whole ∙ ap (λ t. 47 ∷ t) (append_assoc i.body i.flags after) in
    let size : length s ≡ length (47 ∷ (i.body ++ i.flags)) = ap length i.whole in
    reached kind.RegExp (at + 1 + length i.body + length i.flags + length r.front)
    (ap (look_at goal at) cut
    ∙ regexp_reads goal at i.body i.flags after i.closes (ap begins_comment (sym cut) ∙ n) (regexp_may goal k after e a)
    i.goes_on r)
    (omega (arith, length-append i.body i.flags)) (λ q. e)

-- a number's look
-- what begins a number
starts_number : (b : ℕ) (rest : List ℕ) → begins_number (b ∷ rest) ≡ true
    → (is_ascii_digit b || b == 46 && begins_digit rest) ≡ true
unfolding begins_number begins_digit is_digit numeral.begins_digit
starts_number b [] h = h
starts_number b (c ∷ rest) h = h

digit_starts : (b : ℕ) (rest : List ℕ) → is_ascii_digit b ≡ true → begins_number (b ∷ rest) ≡ true
unfolding begins_number is_digit
digit_starts b rest e = rw e refl

point_starts : (b : ℕ) (rest : List ℕ) → b ≡ 46 → begins_digit rest ≡ true → begins_number (b ∷ rest) ≡ true
unfolding begins_number begins_digit is_digit numeral.begins_digit
point_starts b [] e d = cc
point_starts b (c ∷ rest) e d = rw e d

start_no_comment_by : (b : ℕ) (rest : List ℕ) (v : Bool) → is_ascii_digit b ≡ v
    → (is_ascii_digit b || b == 46 && begins_digit rest) ≡ true → begins_comment (b ∷ rest) ≡ false
start_no_comment_by b rest true p h = no_comment_at b rest first.Digit (digit_class b p) (λ e. cc)
start_no_comment_by b rest false p h =
    let g : (b == 46 && begins_digit rest) ≡ true = rw p at h in
    let e : b ≡ 46 = eqb-true b 46 (both_left (b == 46) (begins_digit rest) g) in
    no_comment_at b rest first.Dot (ap first_of e ∙ dot_class) (λ e. cc)

number_looks_by : (goal : Goal) (at b : ℕ) (rest : List ℕ) (v : Bool) → is_ascii_digit b ≡ v
    → (is_ascii_digit b || b == 46 && begins_digit rest) ≡ true → look_at goal at (b ∷ rest) ≡ number_look at (b ∷ rest)
unfolding look_at class_look
number_looks_by goal at b rest true p h = rw (digit_class b p) refl
number_looks_by goal at b rest false p h =
    let g : (b == 46 && begins_digit rest) ≡ true = rw p at h in
    let e : b ≡ 46 = eqb-true b 46 (both_left (b == 46) (begins_digit rest) g) in
    let f : first_of b ≡ first.Dot = ap first_of e ∙ dot_class in
    rw f (dot_number goal at rest (both_right (b == 46) (begins_digit rest) g)
    ∙ ap (λ c. number_look at (c ∷ rest)) (sym e))

number_looks : (goal : Goal) (at b : ℕ) (rest : List ℕ) → begins_number (b ∷ rest) ≡ true
    → look_at goal at (b ∷ rest) ≡ number_look at (b ∷ rest)
number_looks goal at b rest h = number_looks_by goal at b rest (is_ascii_digit b) refl (starts_number b rest h)

spelled_looks : (goal : Goal) (at : ℕ) (big : Bool) (s after : List ℕ) → IsNumber big s
    → look_at goal at (s ++ after) ≡ number_look at (s ++ after)
spelled_looks goal at big [] after i = absurd (digits.no_empty big i)
spelled_looks goal at big (b ∷ s) after i = number_looks goal at b (s ++ after) (digits.begins big (b ∷ s) after i)

number_stops_by : (n : NumberEnd) (after : List ℕ) (v : Bool) (k : TokenKind) (m : ℕ) → joins after ≡ v
    → number_stop n after ≡ look.Token k m → n.end ≡ m
unfolding number_stop
number_stops_by n after true k m p e = let f : look.Fault InvalidChar n.end ≡ look.Token k m = rw p at e in cc
number_stops_by n after false k m p e =
    let f : look.Token (number_kind n.big) n.end ≡ look.Token k m = rw p at e in cc

-- where a look at a number's text answers a token, it is no shorter
number_limits : (goal : Goal) (at : ℕ) (big : Bool) (s after : List ℕ) (k : TokenKind) (m : ℕ) → IsNumber big s
    → look_at goal at (s ++ after) ≡ look.Token k m → at + length s ≤ m
unfolding number_look
number_limits goal at big s after k m i e =
    let n : (number_end at (s ++ after)).end ≡ m =
    number_stops_by (number_end at (s ++ after))
    (drop ((number_end at (s ++ after)).end - at) (s ++ after)) (joins _) k m refl
    (sym (spelled_looks goal at big s after i) ∙ e) in
    let l : at + length s ≤ (number_end at (s ++ after)).end = digits.number_reaches at big s after i in
    omega arith

-- what a look at a spelling answers, but for a number's
pub data Limited (k : TokenKind) (s : List ℕ) (end : ℕ) (found : Look) : Type 0 where
  by_reach : Reached k end found → Limited k s end found
  by_number : (big : Bool) → IsNumber big s → k ≡ number_kind big → Limited k s end found

pub reaches : (goal : Goal) (at : ℕ) (k : TokenKind) (s after : List ℕ) → Spells goal k s → allows goal k after ≡ true
    → begins_comment (s ++ after) ≡ false → Limited k s (at + length s) (look_at goal at (s ++ after))
unfolding sign_kind
reaches goal at k s after (word w e) a n =
    by_reach (word_reaches goal at k s after w e (word_parts (at + length s) after))
reaches goal at k s after (str l e) a n = by_reach (string_reaches goal at k s after l e)
reaches goal at k [] after (sign e) a n = cc
reaches goal at k (b ∷ s) after (sign e) a n =
    by_reach (sign_reaches_class goal at b s after k (first_of b) refl (mark.sign_begins b s k e) e a n)
reaches goal at k s after (private_name name w q e) a n =
    by_reach (private_reaches goal at k s after name w q e (word_parts (at + 1 + length name) after))
reaches goal at k s after (template opens sub body t q e) a n =
    by_reach (template_reaches goal at k s after opens sub body t q e a)
reaches goal at k s after (expression i e) a n =
    by_reach (regexp_reaches goal at k s after i e a n
    (flag_parts (at + 1 + length i.body + length i.flags) after))
reaches goal at k s after (shebang text h f q e) a n =
    by_reach (shebang_reaches goal at k s after text h f q e a)
reaches goal at k s after (number big i e) a n = by_number big i e

-- ---- so what is found is the longest
longest_from : (goal : Goal) (k j : TokenKind) (s more rest : List ℕ) (at : ℕ)
    → look_at goal at ((s ++ more) ++ rest) ≡ look.Token k (at + length s)
    → Limited j (s ++ more) (at + length (s ++ more)) (look_at goal at ((s ++ more) ++ rest)) → more ≡ []
longest_from goal k j s more rest at e (by_reach (reached i m f l g)) =
    let ends : at + length s ≡ m = cc in
    nil_from_length more (omega (arith, length-append s more))
longest_from goal k j s more rest at e (by_number big i f) =
    let l : at + length (s ++ more) ≤ at + length s =
    number_limits goal at big (s ++ more) rest k (at + length s) i e in
    nil_from_length more (omega (arith, length-append s more))

longest_by : (goal : Goal) (at : ℕ) (k : TokenKind) (s after : List ℕ) → begins_comment (s ++ after) ≡ false
    → look_at goal at (s ++ after) ≡ look.Token k (at + length s) → IsLongest goal s after
longest_by goal at k s after n e j more rest w sp al =
    let same : (s ++ more) ++ rest ≡ s ++ after = append_assoc s more rest ∙ ap (λ t. s ++ t) (sym w) in
    longest_from goal k j s more rest at (ap (look_at goal at) same ∙ e)
    (reaches goal at j (s ++ more) rest sp al (ap begins_comment same ∙ n))

-- ---- what stands there is found
comment_reads : (goal : Goal) (at : ℕ) (kind : CommentKind) (text after : List ℕ) → IsComment kind text after
    → look_at goal at (comment_spelling kind text ++ after) ≡ reading_of at (comment kind text)
unfolding look_at class_look slash_look comment_spelling
comment_reads goal at Line text after h =
    let end : line_stop (at + 2) (text ++ after) ≡ at + length (47 ∷ 47 ∷ text) =
    line_passed (at + 2) text after h.0 h.1 ∙ omega arith in
    rw (slash_class, end, h.0) refl
comment_reads goal at Block text after h =
    let joined : (text ++ 42 ∷ 47 ∷ []) ++ after ≡ text ++ 42 ∷ 47 ∷ after = append_assoc text (42 ∷ 47 ∷ []) after in
    let size : at + 2 + length text + 2 ≡ at + length (47 ∷ 42 ∷ (text ++ 42 ∷ 47 ∷ [])) =
    omega (arith, length-append text (42 ∷ 47 ∷ [])) in
    rw (slash_class, joined)
    (remark.block_closes at false (at + 2) text after h ∙ ap (λ n. look.Comment Block n (has_line_end text)) size)

-- ---- so is what breaks there
no_body_by : (at : ℕ) (text : List ℕ) (found : Option ℕ) → BeginsNoBody text → pattern.BodyFound at text found
    → found ≡ None
no_body_by at text found h (pattern.closes s after w i e) = absurd (h s after w i)
no_body_by at text found h (pattern.none n e) = e

regexp_stuck : (goal : Goal) (at : ℕ) (text : List ℕ) → begins_comment (47 ∷ text) ≡ false → goal.regexp ≡ true
    → BeginsNoBody text → look_at goal at (47 ∷ text) ≡ look.Fault UnterminatedRegExp at
unfolding regexp_look
regexp_stuck goal at text n r h =
    regexp_looks goal at text n r
    ∙ ap (λ found. regexp_look at found text)
    (no_body_by (at + 1) text (body_end (at + 1) text) h (pattern.body_finds (at + 1) text))

block_stuck : (goal : Goal) (at : ℕ) (body : List ℕ) → has_closer body ≡ false
    → slash_look goal at (42 ∷ body) ≡ look.Fault UnterminatedComment at
unfolding slash_look
block_stuck goal at body h = remark.block_runs_out at false (at + 2) body h

closes_not_plain : (bracket : Option BracketKind) (r : Role) → may_close bracket r ≡ false
    → mark.is_plain_role r ≡ false
unfolding may_close
closes_not_plain bracket (Opens k) e = cc
closes_not_plain bracket (Closes k) e = refl
closes_not_plain bracket Continues e = refl
closes_not_plain bracket Plain e = cc

closer_stuck : (bracket : Option BracketKind) (at b : ℕ) (after : List ℕ) (k : TokenKind) → sign_kind (b ∷ []) ≡ Some k
    → may_close bracket (role_of k) ≡ false
    → sign_look bracket at (sign_at (b ∷ after)) ≡ look.Fault Unbalanced at
unfolding sign_look sized
closer_stuck bracket at b after k w c =
    let alone : sign_at (b ∷ after) ≡ sized 1 (sign_kind (b ∷ [])) None =
    mark.sign_alone b after (rw w (closes_not_plain bracket (role_of k) c)) in
    rw alone (rw w (rw c refl))

nothing_stuck : (bracket : Option BracketKind) (at b : ℕ) (after : List ℕ) → sign_kind (b ∷ []) ≡ None
    → sign_look bracket at (sign_at (b ∷ after)) ≡ look.Fault InvalidChar at
unfolding sign_look sized
nothing_stuck bracket at b after w =
    let alone : sign_at (b ∷ after) ≡ sized 1 (sign_kind (b ∷ [])) None =
    mark.sign_alone b after (rw w refl) in
    rw alone (rw w refl)

-- a byte that begins a punctuator alone
sign_looks : (goal : Goal) (at b : ℕ) (rest : List ℕ) → BeginsSign goal b
    → look_at goal at (b ∷ rest) ≡ sign_look goal.bracket at (sign_at (b ∷ rest))
unfolding look_at class_look
sign_looks goal at b rest (inl f) = rw f refl
sign_looks goal at b rest (inr p) = brace_same goal at b rest p.0 p.1

name_stuck : (at : ℕ) (text : List ℕ) → begins_backslash text ≡ false → begins_name text ≡ false
    → name_look at text ≡ look.Fault InvalidChar at
unfolding name_look
name_stuck at text s e = rw (e, s) refl

hash_stuck : (front : Bool) (at : ℕ) (after : List ℕ) → begins_backslash after ≡ false → begins_name after ≡ false
    → (front && begins_mark after) ≡ false → hash_look front at after ≡ look.Fault InvalidChar at
unfolding hash_look begins_mark
hash_stuck front at [] s h n = refl
hash_stuck front at (b ∷ rest) s h n = rw n (name_stuck at (b ∷ rest) s h)

-- a `\` that begins no name
backslash_stuck : (goal : Goal) (at : ℕ) (text : List ℕ) → begins_name text ≡ false
    → backslash_look goal at text ≡ look.Fault (backslash_fault text) at
unfolding backslash_look
backslash_stuck goal at text e = rw e refl

word_stuck : (goal : Goal) (at : ℕ) (text : List ℕ) → begins_backslash text ≡ true → begins_name text ≡ false
    → look_at goal at text ≡ look.Fault (backslash_fault text) at
unfolding begins_backslash
word_stuck goal at [] s e = cc
word_stuck goal at (b ∷ rest) s e =
    backslash_looks goal at b rest (ap first_of (eqb-true b 92 s) ∙ backslash_class)
    ∙ backslash_stuck goal at (b ∷ rest) e

escape_stuck : (at : ℕ) (text : List ℕ) → begins_backslash text ≡ true → begins_name text ≡ false
    → name_look at text ≡ look.Fault (backslash_fault text) (at + 1)
unfolding name_look
escape_stuck at text s e = rw (e, s) refl

private_stuck : (front : Bool) (at : ℕ) (after : List ℕ) → begins_backslash after ≡ true → begins_name after ≡ false
    → hash_look front at after ≡ look.Fault (backslash_fault after) (at + 1)
unfolding begins_backslash
private_stuck front at [] s e = cc
private_stuck front at (b ∷ rest) s e =
    hash_names front at b rest
    (no_mark_by front b first.Backslash (ap first_of (eqb-true b 92 s) ∙ backslash_class) (λ g. cc))
    ∙ escape_stuck at (b ∷ rest) s e

-- what is no character
char_stuck : (goal : Goal) (at : ℕ) (text : List ℕ) → wide_size text ≡ 0 → wide_blank text ≡ 0 → wide_line text ≡ 0
    → wide_look goal at text ≡ look.Fault InvalidChar at
unfolding wide_look
char_stuck goal at text e f g = rw (e, f, g) refl

template_opens : (goal : Goal) (at : ℕ) (opens : Bool) (rest : List ℕ)
    → (opens ≡ false → is_open goal.bracket Template ≡ true)
    → look_at goal at (template_start opens ∷ rest) ≡ template_look opens at (template_end (at + 1) rest)
unfolding template_start
template_opens goal at true rest h = tick_looks goal at 96 rest backtick_class
template_opens goal at false rest h = brace_looks goal at 125 rest brace_class ∙ brace_open goal at rest (h refl)

template_stuck : (opens : Bool) (at : ℕ) (body : List ℕ) → IsUnclosed body
    → template_look opens at (template_end (at + 1) body) ≡ look.Fault UnterminatedTemplate at
unfolding template_look
template_stuck opens at body u = ap (template_look opens at) (text.unclosed_found (at + 1) body u)

joined_fault : (n : NumberEnd) (after : List ℕ) → joins after ≡ true
    → number_stop n after ≡ look.Fault InvalidChar n.end
unfolding number_stop
joined_fault n after e = rw e refl

apart_token : (n : NumberEnd) (after : List ℕ) → joins after ≡ false
    → number_stop n after ≡ look.Token (number_kind n.big) n.end
unfolding number_stop
apart_token n after e = rw e refl

-- the longest number is found, and what stands behind it
number_at : (at : ℕ) (big : Bool) (s after : List ℕ) → IsNumber big s → IsLongestNumber s after
    → number_look at (s ++ after) ≡ number_stop (record { big = big; end = at + length s }) after
unfolding number_look
number_at at big s after i l =
    let e : number_end at (s ++ after) ≡ record { big = big; end = at + length s } =
    digits.number_is at big s after i l in
    ap (λ (n : NumberEnd). number_stop n (drop (n.end - at) (s ++ after))) e
    ∙ ap (number_stop (record { big = big; end = at + length s }))
    (drop_at s after (at + length s - at) (omega arith))

number_stuck : (goal : Goal) (at : ℕ) (big : Bool) (s after : List ℕ) → IsNumber big s → IsLongestNumber s after
    → joins after ≡ true → look_at goal at (s ++ after) ≡ look.Fault InvalidChar (at + length s)
number_stuck goal at big s after i l p =
    spelled_looks goal at big s after i ∙ (number_at at big s after i l
    ∙ joined_fault (record { big = big; end = at + length s }) after p)

-- a text that begins like a literal
string_begins : {Back : ℕ → List ℕ → Type 0} (goal : Goal) (at : ℕ) (text : List ℕ) → Begins Back text
    → look_at goal at text ≡ string_look at (string_end at text)
string_begins goal at text b =
    subst (λ (t : List ℕ). look_at goal at t ≡ string_look at (string_end at t)) (sym b.whole)
    (string_looks goal at b.quote (concat b.units ++ b.back) (quote_class b.quote b.quotes))

pub stuck_reads : (goal : Goal) (rest : List ℕ) (at : ℕ) (kind : LexicalKind) (place : ℕ)
    → Stuck goal rest at kind place
    → look_at goal at rest ≡ look.Fault kind place
unfolding look_at class_look end_look string_look
stuck_reads goal rest at kind place (open_string b e p) =
    string_begins goal at rest b ∙ (ap (string_look at) (literal.unclosed_found at rest b) ∙ (cc))
stuck_reads goal rest at kind place (bad_escape b e p) =
    string_begins goal at rest b ∙ (ap (string_look at) (literal.invalid_found at rest b) ∙ (cc))
stuck_reads goal rest at kind place (open_comment body w h e p) =
    rw w (rw slash_class (block_stuck goal at body h ∙ (cc)))
stuck_reads goal rest at kind place (no_token b after w f n e p) =
    rw w (rw f (nothing_stuck goal.bracket at b after n ∙ (cc)))
stuck_reads goal rest at kind place (open_regexp text w n r h e p) =
    rw w (regexp_stuck goal at text (rw w at n) r h ∙ (cc))
stuck_reads goal rest at kind place (no_character b after w f m n l e p) =
    rw w (wide_looks goal at b after f
    ∙ (char_stuck goal at (b ∷ after) (rw w at m) (rw w at n) (rw w at l) ∙ (cc)))
stuck_reads goal rest at kind place (wrong_closer b after k w f s c e p) =
    rw w (sign_looks goal at b after f ∙ (closer_stuck goal.bracket at b after k s c ∙ (cc)))
stuck_reads goal rest at kind place (bad_name s h e p) = word_stuck goal at rest s h ∙ (cc)
stuck_reads goal rest at kind place (bad_private after w s h e p) =
    rw w (hash_looks goal at 35 after hash_class ∙ (private_stuck goal.front at after s h ∙ (cc)))
stuck_reads goal rest at kind place (lone_hash after w s h n e p) =
    rw w (hash_looks goal at 35 after hash_class ∙ (hash_stuck goal.front at after s h n ∙ (cc)))
stuck_reads goal rest at kind place (open_template opens body w h u e p) =
    rw w (template_opens goal at opens body h ∙ (template_stuck opens at body u ∙ (cc)))
stuck_reads goal rest at kind place (joined big s after w i l b e p) =
    rw w (number_stuck goal at big s after i l b ∙ (cc))
stuck_reads goal rest at kind place (open_bracket bracket w b e p) = rw w (rw b cc)

-- ---- and nothing else is found
pub data Found (goal : Goal) (at : ℕ) (text : List ℕ) (found : Look) : Type 0 where
  ended : text ≡ [] → goal.bracket ≡ None → found ≡ look.End → Found goal at text found
  piece : (p : Piece) (after : List ℕ) → text ≡ spelling p ++ after → IsPiece goal p after → found ≡ reading_of at p
      → Found goal at text found
  fault : (kind : LexicalKind) (place : ℕ) → Stuck goal text at kind place → found ≡ look.Fault kind place
      → Found goal at text found

met_look : (goal : Goal) (at : ℕ) (text other : List ℕ) (found : Look) (k : TokenKind) (m : ℕ) → other ≡ text
    → look_at goal at other ≡ found → found ≡ look.Token k m → look_at goal at text ≡ look.Token k m
met_look goal at text other found k m w l e = ap (look_at goal at) (sym w) ∙ (l ∙ e)

-- a token that a look finds
met : (goal : Goal) (at : ℕ) (k : TokenKind) (s after text : List ℕ) (found : Look) → text ≡ s ++ after
    → Spells goal k s → allows goal k after ≡ true → begins_comment (s ++ after) ≡ false
    → stands_apart k after ≡ true
    → look_at goal at text ≡ found → found ≡ look.Token k (at + length s) → Found goal at text found
met goal at k s after text found w sp al n ap l e =
    let t : IsToken goal k s after = record {
      spells = sp;
      allowed = al;
      longest = longest_by goal at k s after n (met_look goal at (s ++ after) text found k (at + length s) w l e);
      no_comment = n;
      apart = ap;
    } in
    piece (token k s) after w t e

str_apart : (after : List ℕ) → stands_apart kind.Str after ≡ true
unfolding stands_apart
str_apart after = refl

str_allows : (goal : Goal) (after : List ℕ) → allows goal kind.Str after ≡ true
unfolding allows may_close role_of may_stand
str_allows goal after = refl

other_no_slash : (a : ℕ) → first_of a ≡ first.Other → (a == 47) ≡ true → ⊥
other_no_slash a f e =
    let same : a ≡ 47 = eqb-true a 47 e in
    let class : first.Slash ≡ first.Other = sym slash_class ∙ (ap first_of (sym same) ∙ f) in
    cc

brace_no_slash : (a : ℕ) → first_of a ≡ first.Brace → (a == 47) ≡ true → ⊥
brace_no_slash a f e =
    let same : a ≡ 47 = eqb-true a 47 e in
    let class : first.Slash ≡ first.Brace = sym slash_class ∙ (ap first_of (sym same) ∙ f) in
    cc

dot_no_slash : (a : ℕ) → first_of a ≡ first.Dot → (a == 47) ≡ true → ⊥
dot_no_slash a f e =
    let same : a ≡ 47 = eqb-true a 47 e in
    let class : first.Slash ≡ first.Dot = sym slash_class ∙ (ap first_of (sym same) ∙ f) in
    cc

word_met : (goal : Goal) (at : ℕ) (text : List ℕ) → begins_name text ≡ true → Parts word_unit at text
    → Found goal at text (look_at goal at text)
word_met goal at text h r =
    let w : IsWord r.front =
    record { starts = name_front text r.front r.back h r.whole r.passes r.ends; goes_on = r.passes } in
    met goal at (kind_at goal.member r.front) r.front r.back text _ r.whole (word w refl)
    (free_allows goal (kind_at goal.member r.front) r.back (word_free goal.member r.front))
    (ap begins_comment (sym r.whole) ∙ name_no_comment text h)
    (free_apart (kind_at goal.member r.front) r.back (word_free goal.member r.front)) refl
    (name_looks goal at text h
    ∙ (word_looks goal.member at text (at + length r.front) (word_ends at text r)
    ∙ ap (λ t. look.Token (kind_at goal.member t) (at + length r.front))
    (ap (take (at + length r.front - at)) r.whole
    ∙ take_at r.front r.back (at + length r.front - at) (omega arith))))

start_name : (b : ℕ) (rest : List ℕ) → is_start b ≡ true → begins_name (b ∷ rest) ≡ true
unfolding begins_name
start_name b rest e = rw e refl

or_true : (u : Bool) → (u || true) ≡ true
or_true true = refl
or_true false = refl

char_name : (b : ℕ) (rest : List ℕ) (n : ℕ) → wide_size (b ∷ rest) ≡ suc n → begins_name (b ∷ rest) ≡ true
unfolding begins_name
char_name b rest n e = rw (e, not_zero (suc n) (omega arith)) (or_true (is_start b))

blank_looks : (goal : Goal) (at : ℕ) (text : List ℕ) (n : ℕ) → wide_blank text ≡ suc n
    → wide_look goal at text ≡ look.Blank (at + suc n)
unfolding wide_look
blank_looks goal at text n e =
    rw (wide.blank_no_char text n e, e, not_zero (suc n) (omega arith)) refl

blank_met : (goal : Goal) (at b : ℕ) (rest : List ℕ) (n : ℕ) → first_of b ≡ first.Wide → wide_blank (b ∷ rest) ≡ suc n
    → wide.Blank (b ∷ rest) (suc n) → Found goal at (b ∷ rest) (look_at goal at (b ∷ rest))
blank_met goal at b rest n f e r =
    let long : length r.blank ≡ suc n = r.long in
    piece (blank r.blank) r.after r.whole (inr (omega arith, r.is))
    (wide_looks goal at b rest f ∙ (blank_looks goal at (b ∷ rest) n e
    ∙ ap (λ m. look.Blank (at + m)) (sym long)))

line_looks : (goal : Goal) (at : ℕ) (text : List ℕ) (n : ℕ) → wide_line text ≡ suc n
    → wide_look goal at text ≡ look.LineEnd (at + suc n)
unfolding wide_look
line_looks goal at text n e =
    rw (wide.line_no_char text n e, wide.line_no_blank text n e, e, not_zero (suc n) (omega arith)) refl

line_met : (goal : Goal) (at b : ℕ) (rest : List ℕ) (n : ℕ) → first_of b ≡ first.Wide → wide_line (b ∷ rest) ≡ suc n
    → wide.Line (b ∷ rest) (suc n) → Found goal at (b ∷ rest) (look_at goal at (b ∷ rest))
unfolding wide_line is_separator
line_met goal at b rest n f e (wide.line_separator after w s) =
    piece (line_end (226 ∷ 128 ∷ 168 ∷ [])) after w (inr (omega arith, refl))
    (wide_looks goal at b rest f ∙ (line_looks goal at (b ∷ rest) n e ∙ ap (λ m. look.LineEnd (at + m)) s))
line_met goal at b rest n f e (wide.paragraph_separator after w s) =
    piece (line_end (226 ∷ 128 ∷ 169 ∷ [])) after w (inr (omega arith, refl))
    (wide_looks goal at b rest f ∙ (line_looks goal at (b ∷ rest) n e ∙ ap (λ m. look.LineEnd (at + m)) s))

wide_found : (goal : Goal) (at b : ℕ) (rest : List ℕ) (l m n : ℕ) → first_of b ≡ first.Wide → wide_size (b ∷ rest) ≡ l
    → wide_blank (b ∷ rest) ≡ m → wide_line (b ∷ rest) ≡ n → Found goal at (b ∷ rest) (look_at goal at (b ∷ rest))
wide_found goal at b rest (suc l) m n f e w v =
    word_met goal at (b ∷ rest) (char_name b rest l e) (word_parts at (b ∷ rest))
wide_found goal at b rest zero (suc m) n f e w v = blank_met goal at b rest m f w (wide.blank_front (b ∷ rest) m w)
wide_found goal at b rest zero zero (suc n) f e w v = line_met goal at b rest n f v (wide.line_is (b ∷ rest) n v)
wide_found goal at b rest zero zero zero f e w v =
    fault InvalidChar at (no_character b rest refl f e w v refl refl)
    (wide_looks goal at b rest f ∙ char_stuck goal at (b ∷ rest) e w v)

string_found : (goal : Goal) (at q : ℕ) (rest : List ℕ) (end : StringEnd) → first_of q ≡ first.Quote
    → string_end at (q ∷ rest) ≡ end → IsStringEnd at (q ∷ rest) end
    → Found goal at (q ∷ rest) (look_at goal at (q ∷ rest))
unfolding string_look
string_found goal at q rest end f l (closes s after w i e) =
    met goal at kind.Str s after (q ∷ rest) _ w (str i refl) (str_allows goal after)
    (ap begins_comment (sym w) ∙ no_comment_at q rest first.Quote f (λ e. cc)) (str_apart after) refl
    (string_looks goal at q rest f ∙ ap (string_look at) (l ∙ e))
string_found goal at q rest end f l (invalid b e) =
    fault InvalidEscape (at + 1 + length (concat b.units)) (bad_escape b refl refl)
    (string_looks goal at q rest f ∙ ap (string_look at) (l ∙ e))
string_found goal at q rest end f l (cut b e) =
    fault UnterminatedString at (open_string b refl refl)
    (string_looks goal at q rest f ∙ ap (string_look at) (l ∙ e))

-- a punctuator that isn't single is plain, so a closer is single
closer_single : (bracket : Option BracketKind) (s : List ℕ) (k : TokenKind) → sign_kind s ≡ Some k
    → may_close bracket (role_of k) ≡ false → (b : ℕ) (rest after : List ℕ) → b ∷ rest ≡ s ++ after
    → sign_kind (b ∷ []) ≡ Some k
unfolding sign_kind
closer_single bracket [] k w c b rest after e = cc
closer_single bracket (a ∷ []) k w c b rest after e = let f : b ≡ a = cc in rw f w
closer_single bracket (a ∷ d ∷ []) k w c b rest after e =
    absurd (true≢false (sym (plain_closes bracket (role_of k) (mark.plain_of_two a d k w)) ∙ c))
closer_single bracket (a ∷ d ∷ g ∷ []) k w c b rest after e =
    absurd (true≢false (sym (plain_closes bracket (role_of k) (mark.plain_of_three a d g k w)) ∙ c))
closer_single bracket (a ∷ d ∷ g ∷ h ∷ s) k w c b rest after e = cc

-- a punctuator may begin with `b`
data SignStarts (goal : Goal) (b : ℕ) (rest : List ℕ) : Type 0 where
  alone : BeginsSign goal b → SignStarts goal b rest
  slash : first_of b ≡ first.Slash → goal.regexp ≡ false → SignStarts goal b rest
  dot : first_of b ≡ first.Dot → begins_digit rest ≡ false → SignStarts goal b rest

dot_fits : (b : ℕ) (rest s after : List ℕ) (k : TokenKind) → b ∷ rest ≡ s ++ after → sign_kind s ≡ Some k
    → (first_of b ≡ first.Dot → begins_digit rest ≡ false) → mark.is_dot k ≡ true → begins_digit after ≡ false
dot_fits b rest s after k w sk h d =
    let e : s ≡ 46 ∷ [] = mark.dot_spells s k sk d in
    let cut : b ∷ rest ≡ 46 ∷ after = w ∙ ap (λ t. t ++ after) e in
    let byte : b ≡ 46 = cc in
    let same : rest ≡ after = cc in
    subst (λ t. begins_digit t ≡ false) same (h (ap first_of byte ∙ dot_class))

both_true : (u v : Bool) → u ≡ true → v ≡ true → (u && v) ≡ true
both_true true v p q = q
both_true false v p q = cc

-- a punctuator may stand behind what divides
stands_by : (goal : Goal) (b : ℕ) (rest s after : List ℕ) (k : TokenKind) → b ∷ rest ≡ s ++ after
    → sign_kind s ≡ Some k → mark.ChainFits k after
    → SignStarts goal b rest
    → may_stand goal.regexp k after ≡ true
unfolding sign_kind
stands_by goal b rest [] after k w sk h c = cc
stands_by goal b rest (a ∷ s) after k w sk h (alone (inl f)) =
    let same : b ≡ a = cc in
    mark.may_stand_sign a s k goal.regexp after sk h
    (λ e. absurd (other_no_slash a (ap first_of (sym same) ∙ f) e))
    (dot_fits b rest (a ∷ s) after k w sk (λ g. cc))
stands_by goal b rest (a ∷ s) after k w sk h (alone (inr p)) =
    let same : b ≡ a = cc in
    let f : first_of b ≡ first.Brace = p.0 in
    mark.may_stand_sign a s k goal.regexp after sk h
    (λ e. absurd (brace_no_slash a (ap first_of (sym same) ∙ p.0) e))
    (dot_fits b rest (a ∷ s) after k w sk (λ g. cc))
stands_by goal b rest (a ∷ s) after k w sk h (slash f r) =
    mark.may_stand_sign a s k goal.regexp after sk h (λ e. r) (dot_fits b rest (a ∷ s) after k w sk (λ g. cc))
stands_by goal b rest (a ∷ s) after k w sk h (dot f d) =
    let same : b ≡ a = cc in
    mark.may_stand_sign a s k goal.regexp after sk h
    (λ e. absurd (dot_no_slash a (ap first_of (sym same) ∙ f) e))
    (dot_fits b rest (a ∷ s) after k w sk (λ g. d))

-- no `/` closes a bracket
slash_no_closer : (goal : Goal) (b : ℕ) (rest s after : List ℕ) (k : TokenKind) → b ∷ rest ≡ s ++ after
    → sign_kind s ≡ Some k → b ≡ 47 → may_close goal.bracket (role_of k) ≡ false → ⊥
unfolding sign_kind
slash_no_closer goal b rest [] after k w sk e m = cc
slash_no_closer goal b rest (a ∷ s) after k w sk e m =
    let same : a ≡ 47 = cc in
    true≢false (sym (plain_closes goal.bracket (role_of k) (mark.slash_plain k (mark.slash_is_slash a s k sk same)))
    ∙ m)

-- nor does a point
dot_no_closer : (goal : Goal) (b : ℕ) (rest s after : List ℕ) (k : TokenKind) → b ∷ rest ≡ s ++ after
    → sign_kind s ≡ Some k → b ≡ 46 → may_close goal.bracket (role_of k) ≡ false → ⊥
unfolding sign_kind
dot_no_closer goal b rest [] after k w sk e m = cc
dot_no_closer goal b rest (a ∷ s) after k w sk e m =
    let same : a ≡ 46 = cc in
    true≢false (sym (plain_closes goal.bracket (role_of k) (mark.point_plain a s k sk same)) ∙ m)

dot_is_sign : (a : ℕ) → 46 ≡ a → sign_kind (a ∷ []) ≡ None → ⊥
dot_is_sign a e n = mark.point_some (ap (λ c. sign_kind (c ∷ [])) e ∙ n)

slash_is_sign : (a : ℕ) → 47 ≡ a → sign_kind (a ∷ []) ≡ None → ⊥
slash_is_sign a e n = mark.slash_some (ap (λ c. sign_kind (c ∷ [])) e ∙ n)

-- a punctuator that begins with `b`, where it is no `/` that may begin a regular expression
sign_met : (goal : Goal) (at b : ℕ) (rest s after : List ℕ) (k : TokenKind) (v : Bool) (found : Look)
    → SignStarts goal b rest
    → begins_comment (b ∷ rest) ≡ false → look_at goal at (b ∷ rest) ≡ found
    → b ∷ rest ≡ s ++ after → sign_kind s ≡ Some k → mark.ChainFits k after
    → may_close goal.bracket (role_of k) ≡ v
    → found ≡ (if v then look.Token k (at + length s) else look.Fault Unbalanced at) → Found goal at (b ∷ rest) found
unfolding allows
sign_met goal at b rest s after k true found c n l w sk h m e =
    met goal at k s after (b ∷ rest) found w (sign sk)
    (both_true (may_close goal.bracket (role_of k)) (may_stand goal.regexp k after) m
    (stands_by goal b rest s after k w sk h c))
    (ap begins_comment (sym w) ∙ n) (mark.sign_apart s k after sk) l e
sign_met goal at b rest s after k false found (alone f) n l w sk h m e =
    fault Unbalanced at
    (wrong_closer b rest k refl f (closer_single goal.bracket s k sk m b rest after w) m refl refl) e
sign_met goal at b rest s after k false found (slash f r) n l w sk h m e =
    absurd (slash_no_closer goal b rest s after k w sk (slash_is b f) m)
sign_met goal at b rest s after k false found (dot f d) n l w sk h m e =
    absurd (dot_no_closer goal b rest s after k w sk (dot_is b f) m)

sign_found : (goal : Goal) (at b : ℕ) (rest : List ℕ) (found : Option Sign)
    → SignStarts goal b rest
    → begins_comment (b ∷ rest) ≡ false → look_at goal at (b ∷ rest) ≡ sign_look goal.bracket at found
    → mark.SignFound (b ∷ rest) found → Found goal at (b ∷ rest) (sign_look goal.bracket at found)
unfolding sign_look
sign_found goal at b rest found c n l (mark.some s after k w sk h e) =
    sign_met goal at b rest s after k (may_close goal.bracket (role_of k)) _ c n l w sk h refl (rw e refl)
sign_found goal at b rest found (alone (inl f)) n l (mark.none a after w sk e) =
    let same : b ≡ a = cc in
    fault InvalidChar at (no_token b rest refl f (rw same sk) refl refl) (rw e refl)
sign_found goal at b rest found (alone (inr p)) n l (mark.none a after w sk e) =
    let same : 125 ≡ a = let q : b ≡ 125 = brace_is b p.0 in cc in
    absurd (mark.brace_some (ap (λ c. sign_kind (c ∷ [])) same ∙ sk))
sign_found goal at b rest found (slash f r) n l (mark.none a after w sk e) =
    let same : 47 ≡ a = let q : b ≡ 47 = slash_is b f in cc in
    absurd (slash_is_sign a same sk)
sign_found goal at b rest found (dot f d) n l (mark.none a after w sk e) =
    let same : 46 ≡ a = let q : b ≡ 46 = dot_is b f in cc in
    absurd (dot_is_sign a same sk)

line_found : (goal : Goal) (at : ℕ) (rest : List ℕ) → Run (at + 2) rest
    → Found goal at (47 ∷ 47 ∷ rest) (look.Comment Line (line_stop (at + 2) rest) false)
unfolding comment_spelling
line_found goal at rest r =
    let h : IsComment Line r.front r.back = (in_line_back r.front r.back r.passes, r.ends) in
    piece (comment Line r.front) r.back (ap (λ t. 47 ∷ 47 ∷ t) r.whole) h
    (rw (r.end, h.0)
    (ap (λ n. look.Comment Line n false)
    (let e : at + 2 + length r.front ≡ at + length (47 ∷ 47 ∷ r.front) = omega arith in e)))

block_found : (goal : Goal) (at : ℕ) (rest : List ℕ) (found : Look) → remark.BlockFound at false (at + 2) rest found
    → Found goal at (47 ∷ 42 ∷ rest) found
unfolding comment_spelling
block_found goal at rest found (remark.closed text after w h e) =
    let size : at + 2 + length text + 2 ≡ at + length (47 ∷ 42 ∷ (text ++ 42 ∷ 47 ∷ [])) =
    omega (arith, length-append text (42 ∷ 47 ∷ [])) in
    piece (comment Block text) after (ap (λ t. 47 ∷ 42 ∷ t) (w ∙ sym (append_assoc text (42 ∷ 47 ∷ []) after))) h
    (e ∙ ap (λ n. look.Comment Block n (has_line_end text)) size)
block_found goal at rest found (remark.unclosed h e) =
    fault UnterminatedComment at (open_comment rest refl h refl refl) e

-- a regular expression, or none
regexp_allows : (goal : Goal) (after : List ℕ) → goal.regexp ≡ true → allows goal kind.RegExp after ≡ true
unfolding allows may_close role_of may_stand
regexp_allows goal after r = r

regexp_apart : (after : List ℕ) → stands_apart kind.RegExp after ≡ true
unfolding stands_apart
regexp_apart after = refl

opens_same : (body x y : List ℕ) → IsBody body → begins_comment (47 ∷ (body ++ x)) ≡ begins_comment (47 ∷ (body ++ y))
unfolding begins_comment
opens_same [] x y i =
    let e : length {A = ℕ} [] ≡ length (concat i.units ++ 47 ∷ []) = ap length i.whole in
    absurd (omega (arith, length-append (concat i.units) (47 ∷ [])))
opens_same (b ∷ body) x y i = refl

regexp_met : (goal : Goal) (at : ℕ) (rest body after : List ℕ) → goal.regexp ≡ true → begins_comment (47 ∷ rest) ≡ false
    → rest ≡ body ++ after → IsBody body → Parts part_unit (at + 1 + length body) after
    → Found goal at (47 ∷ rest) (look_at goal at (47 ∷ rest))
regexp_met goal at rest body after g n w i r =
    let s : List ℕ = 47 ∷ (body ++ r.front) in
    let text : rest ≡ body ++ (r.front ++ r.back) = w ∙ ap (λ t. body ++ t) r.whole in
    let whole : 47 ∷ rest ≡ s ++ r.back =
    ap (λ t. 47 ∷ t) (text ∙ sym (append_assoc body r.front r.back)) in
    let front : begins_comment s ≡ false =
    opens_same body r.front (r.front ++ r.back) i ∙ (ap (λ t. begins_comment (47 ∷ t)) (sym text) ∙ n) in
    let is : IsRegExp s =
    record { body = body; flags = r.front; closes = i; opens = front; goes_on = r.passes; whole = refl } in
    let size : at + 1 + length body + length r.front ≡ at + length s = omega (arith, length-append body r.front) in
    met goal at kind.RegExp s r.back (47 ∷ rest) _ whole (expression is refl) (regexp_allows goal r.back g)
    (ap begins_comment (sym whole) ∙ n) (regexp_apart r.back) refl
    (regexp_looks goal at rest n g
    ∙ (ap (λ t. regexp_look at (body_end (at + 1) t) t) w
    ∙ (body_reads at body after i
    ∙ ap (λ e. look.Token kind.RegExp e) (flags_ends (at + 1 + length body) after r ∙ size))))

regexp_found : (goal : Goal) (at : ℕ) (rest : List ℕ) (found : Option ℕ) → goal.regexp ≡ true
    → begins_comment (47 ∷ rest) ≡ false → body_end (at + 1) rest ≡ found → pattern.BodyFound (at + 1) rest found
    → Found goal at (47 ∷ rest) (look_at goal at (47 ∷ rest))
unfolding regexp_look
regexp_found goal at rest found g n l (pattern.closes body after w i e) =
    regexp_met goal at rest body after g n w i (flag_parts (at + 1 + length body) after)
regexp_found goal at rest found g n l (pattern.none h e) =
    fault UnterminatedRegExp at (open_regexp rest refl n g h refl refl)
    (regexp_looks goal at rest n g ∙ ap (λ f. regexp_look at f rest) (l ∙ e))

-- a `/` that begins no comment
divide_found : (goal : Goal) (at : ℕ) (rest : List ℕ) (v : Bool) → goal.regexp ≡ v → begins_comment (47 ∷ rest) ≡ false
    → look_at goal at (47 ∷ rest) ≡ divide_look goal at rest → Found goal at (47 ∷ rest) (divide_look goal at rest)
divide_found goal at rest true r n l =
    subst (Found goal at (47 ∷ rest)) l
    (regexp_found goal at rest (body_end (at + 1) rest) r n refl (pattern.body_finds (at + 1) rest))
divide_found goal at rest false r n l =
    subst (Found goal at (47 ∷ rest)) (sym (divides_is goal at rest r))
    (sign_found goal at 47 rest (sign_at (47 ∷ rest)) (slash slash_class r) n
    (l ∙ divides_is goal at rest r) (mark.sign_finds 47 rest))

slash_found_by : (goal : Goal) (at c : ℕ) (rest : List ℕ) (u v : Bool) → (c == 47) ≡ u → (c == 42) ≡ v
    → look_at goal at (47 ∷ c ∷ rest) ≡ slash_look goal at (c ∷ rest)
    → Found goal at (47 ∷ c ∷ rest) (slash_look goal at (c ∷ rest))
unfolding slash_look begins_comment
slash_found_by goal at c rest true v p q l =
    rw (eqb-true c 47 p) (line_found goal at rest (run (at + 2) rest))
slash_found_by goal at c rest false true p q l =
    rw (eqb-true c 42 q) (block_found goal at rest _ (remark.block_finds at false (at + 2) rest))
slash_found_by goal at c rest false false p q l =
    rw (p, q) (divide_found goal at (c ∷ rest) goal.regexp refl (rw (p, q) refl) (rw (p, q) at l))

slash_found : (goal : Goal) (at : ℕ) (rest : List ℕ) → look_at goal at (47 ∷ rest) ≡ slash_look goal at rest
    → Found goal at (47 ∷ rest) (slash_look goal at rest)
unfolding slash_look begins_comment
slash_found goal at [] l = divide_found goal at [] goal.regexp refl refl l
slash_found goal at (c ∷ rest) l = slash_found_by goal at c rest (c == 47) (c == 42) refl refl l

quote_starts : (b : ℕ) (rest : List ℕ) → first_of b ≡ first.Quote → begins_quote (b ∷ rest) ≡ true
unfolding begins_quote
quote_starts b rest f = quote_is b f

string_class : (goal : Goal) (at b : ℕ) (rest : List ℕ) → first_of b ≡ first.Quote
    → Found goal at (b ∷ rest) (look_at goal at (b ∷ rest))
string_class goal at b rest f =
    string_found goal at b rest (string_end at (b ∷ rest)) f refl
    (literal.string_finds at (b ∷ rest) (quote_starts b rest f))

other_looks : (goal : Goal) (at b : ℕ) (rest : List ℕ) → first_of b ≡ first.Other
    → look_at goal at (b ∷ rest) ≡ sign_look goal.bracket at (sign_at (b ∷ rest))
unfolding look_at class_look
other_looks goal at b rest f = rw f refl

other_class : (goal : Goal) (at b : ℕ) (rest : List ℕ) → first_of b ≡ first.Other
    → Found goal at (b ∷ rest) (look_at goal at (b ∷ rest))
other_class goal at b rest f =
    subst (Found goal at (b ∷ rest)) (sym (other_looks goal at b rest f))
    (sign_found goal at b rest (sign_at (b ∷ rest)) (alone (inl f)) (no_comment_at b rest first.Other f (λ e. cc))
    (other_looks goal at b rest f) (mark.sign_finds b rest))

kind_allows : (goal : Goal) (opens sub : Bool) (after : List ℕ)
    → (opens ≡ false → is_open goal.bracket Template ≡ true) → allows goal (template_kind opens sub) after ≡ true
unfolding allows template_kind role_of may_close may_stand
kind_allows goal true true after h = refl
kind_allows goal true false after h = refl
kind_allows goal false true after h = both_true (is_open goal.bracket Template) true (h refl) refl
kind_allows goal false false after h = both_true (is_open goal.bracket Template) true (h refl) refl

template_apart : (opens sub : Bool) (after : List ℕ) → stands_apart (template_kind opens sub) after ≡ true
unfolding stands_apart template_kind
template_apart true true after = refl
template_apart true false after = refl
template_apart false true after = refl
template_apart false false after = refl

start_no_comment : (opens : Bool) (rest : List ℕ) → begins_comment (template_start opens ∷ rest) ≡ false
unfolding template_start
start_no_comment true rest = no_comment_at 96 rest first.Backtick backtick_class (λ e. cc)
start_no_comment false rest = no_comment_at 125 rest first.Brace brace_class (λ e. cc)

template_met : (goal : Goal) (at : ℕ) (opens sub : Bool) (body after rest : List ℕ) (found : Look)
    → (opens ≡ false → is_open goal.bracket Template ≡ true) → rest ≡ body ++ after
    → IsTemplateText (template_stop sub) body → look_at goal at (template_start opens ∷ rest) ≡ found
    → found ≡ look.Token (template_kind opens sub) (at + 1 + length body)
    → Found goal at (template_start opens ∷ rest) found
template_met goal at opens sub body after rest found h w t l e =
    met goal at (template_kind opens sub) (template_start opens ∷ body) after (template_start opens ∷ rest) found
    (ap (λ v. template_start opens ∷ v) w) (template opens sub body t refl refl) (kind_allows goal opens sub after h)
    (start_no_comment opens (body ++ after)) (template_apart opens sub after) l
    (e ∙ ap (λ n. look.Token (template_kind opens sub) n)
    (let q : at + 1 + length body ≡ at + length (template_start opens ∷ body) = omega arith in q))

template_found : (goal : Goal) (at : ℕ) (opens : Bool) (rest : List ℕ) (end : TemplateEnd)
    → (opens ≡ false → is_open goal.bracket Template ≡ true)
    → look_at goal at (template_start opens ∷ rest) ≡ template_look opens at end → text.TextFound (at + 1) rest end
    → Found goal at (template_start opens ∷ rest) (template_look opens at end)
unfolding template_look template_stop
template_found goal at opens rest end h l (text.closes s after w t e) =
    template_met goal at opens false s after rest _ h w t l (ap (template_look opens at) e)
template_found goal at opens rest end h l (text.substitutes s after w t e) =
    template_met goal at opens true s after rest _ h w t l (ap (template_look opens at) e)
template_found goal at opens rest end h l (text.unclosed u e) =
    fault UnterminatedTemplate at (open_template opens rest refl h u refl refl) (ap (template_look opens at) e)

template_at : (goal : Goal) (at : ℕ) (opens : Bool) (rest : List ℕ)
    → (opens ≡ false → is_open goal.bracket Template ≡ true)
    → Found goal at (template_start opens ∷ rest) (look_at goal at (template_start opens ∷ rest))
template_at goal at opens rest h =
    subst (Found goal at (template_start opens ∷ rest)) (sym (template_opens goal at opens rest h))
    (template_found goal at opens rest (template_end (at + 1) rest) h (template_opens goal at opens rest h)
    (text.text_finds (at + 1) rest))

tick_class : (goal : Goal) (at b : ℕ) (rest : List ℕ) → first_of b ≡ first.Backtick
    → Found goal at (b ∷ rest) (look_at goal at (b ∷ rest))
unfolding template_start
tick_class goal at b rest f =
    subst (λ (c : ℕ). Found goal at (c ∷ rest) (look_at goal at (c ∷ rest))) (sym (backtick_is b f))
    (template_at goal at true rest (λ e. cc))

brace_class_by : (goal : Goal) (at b : ℕ) (rest : List ℕ) (v : Bool) → is_open goal.bracket Template ≡ v
    → first_of b ≡ first.Brace → Found goal at (b ∷ rest) (look_at goal at (b ∷ rest))
unfolding template_start
brace_class_by goal at b rest true o f =
    subst (λ (c : ℕ). Found goal at (c ∷ rest) (look_at goal at (c ∷ rest))) (sym (brace_is b f))
    (template_at goal at false rest (λ e. o))
brace_class_by goal at b rest false o f =
    subst (Found goal at (b ∷ rest)) (sym (brace_same goal at b rest f o))
    (sign_found goal at b rest (sign_at (b ∷ rest)) (alone (inr (f, o))) (no_comment_at b rest first.Brace f (λ e. cc))
    (brace_same goal at b rest f o) (mark.sign_finds b rest))

private_apart : (after : List ℕ) → stands_apart kind.PrivateName after ≡ true
unfolding stands_apart
private_apart after = refl

private_allows : (goal : Goal) (after : List ℕ) → allows goal kind.PrivateName after ≡ true
unfolding allows may_close role_of may_stand
private_allows goal after = refl

private_found : (goal : Goal) (at : ℕ) (text : List ℕ) → begins_name text ≡ true → Parts word_unit (at + 1) text
    → Found goal at (35 ∷ text) (look_at goal at (35 ∷ text))
private_found goal at text h r =
    let w : IsWord r.front =
    record { starts = name_front text r.front r.back h r.whole r.passes r.ends; goes_on = r.passes } in
    met goal at kind.PrivateName (35 ∷ r.front) r.back (35 ∷ text) _ (ap (λ t. 35 ∷ t) r.whole)
    (private_name r.front w refl refl) (private_allows goal r.back)
    (no_comment_at 35 (r.front ++ r.back) first.Hash hash_class (λ e. cc)) (private_apart r.back) refl
    (hash_looks goal at 35 text hash_class ∙ (hash_ends goal.front at text h
    ∙ ap (λ n. look.Token kind.PrivateName n)
    (word_ends (at + 1) text r
    ∙ (let q : at + 1 + length r.front ≡ at + length (35 ∷ r.front) = omega arith in q))))

no_name_by : (goal : Goal) (at : ℕ) (rest : List ℕ) (v : Bool) → begins_backslash rest ≡ v → begins_name rest ≡ false
    → (goal.front && begins_mark rest) ≡ false → Found goal at (35 ∷ rest) (look_at goal at (35 ∷ rest))
no_name_by goal at rest true s h n =
    fault (backslash_fault rest) (at + 1) (bad_private rest refl s h refl refl)
    (hash_looks goal at 35 rest hash_class ∙ private_stuck goal.front at rest s h)
no_name_by goal at rest false s h n =
    fault InvalidChar at (lone_hash rest refl s h n refl refl)
    (hash_looks goal at 35 rest hash_class ∙ hash_stuck goal.front at rest s h n)

no_name : (goal : Goal) (at : ℕ) (rest : List ℕ) → begins_name rest ≡ false → (goal.front && begins_mark rest) ≡ false
    → Found goal at (35 ∷ rest) (look_at goal at (35 ∷ rest))
no_name goal at rest h n = no_name_by goal at rest (begins_backslash rest) refl h n

shebang_apart : (after : List ℕ) → stands_apart kind.Shebang after ≡ true
unfolding stands_apart
shebang_apart after = refl

shebang_allows : (goal : Goal) (after : List ℕ) → ends_line after ≡ true → allows goal kind.Shebang after ≡ true
unfolding allows may_close role_of may_stand
shebang_allows goal after e = e

shebang_found : (goal : Goal) (at : ℕ) (rest : List ℕ) → goal.front ≡ true → Run (at + 2) rest
    → Found goal at (35 ∷ 33 ∷ rest) (look_at goal at (35 ∷ 33 ∷ rest))
shebang_found goal at rest f r =
    met goal at kind.Shebang (35 ∷ 33 ∷ r.front) r.back (35 ∷ 33 ∷ rest) _ (ap (λ t. 35 ∷ 33 ∷ t) r.whole)
    (shebang r.front (in_line_back r.front r.back r.passes) f refl refl) (shebang_allows goal r.back r.ends)
    (no_comment_at 35 (33 ∷ (r.front ++ r.back)) first.Hash hash_class (λ e. cc)) (shebang_apart r.back) refl
    (shebang_looks goal at rest f
    ∙ ap (λ n. look.Token kind.Shebang n)
    (r.end ∙ (let q : at + 2 + length r.front ≡ at + length (35 ∷ 33 ∷ r.front) = omega arith in q)))

no_mark : (front : Bool) (b : ℕ) (rest : List ℕ) → (front && b == 33) ≡ false
    → (front && begins_mark (b ∷ rest)) ≡ false
unfolding begins_mark
no_mark front b rest n = n

hash_byte : (goal : Goal) (at b : ℕ) (rest : List ℕ) (v : Bool) → begins_name (b ∷ rest) ≡ v
    → (goal.front && b == 33) ≡ false → Found goal at (35 ∷ b ∷ rest) (look_at goal at (35 ∷ b ∷ rest))
hash_byte goal at b rest true h n = private_found goal at (b ∷ rest) h (word_parts (at + 1) (b ∷ rest))
hash_byte goal at b rest false h n = no_name goal at (b ∷ rest) h (no_mark goal.front b rest n)

hash_by : (goal : Goal) (at b : ℕ) (rest : List ℕ) (v : Bool) → (goal.front && b == 33) ≡ v
    → Found goal at (35 ∷ b ∷ rest) (look_at goal at (35 ∷ b ∷ rest))
hash_by goal at b rest true e =
    subst (λ (c : ℕ). Found goal at (35 ∷ c ∷ rest) (look_at goal at (35 ∷ c ∷ rest)))
    (sym (eqb-true b 33 (both_right goal.front (b == 33) e)))
    (shebang_found goal at rest (both_left goal.front (b == 33) e) (run (at + 2) rest))
hash_by goal at b rest false e = hash_byte goal at b rest (begins_name (b ∷ rest)) refl e

nothing_marked : (front : Bool) → (front && begins_mark []) ≡ false
unfolding begins_mark
nothing_marked true = refl
nothing_marked false = refl

nothing_named : begins_name [] ≡ false
unfolding begins_name
nothing_named = refl

hash_at : (goal : Goal) (at : ℕ) (rest : List ℕ) → Found goal at (35 ∷ rest) (look_at goal at (35 ∷ rest))
hash_at goal at [] = no_name goal at [] nothing_named (nothing_marked goal.front)
hash_at goal at (b ∷ rest) = hash_by goal at b rest (goal.front && b == 33) refl

number_allows : (goal : Goal) (big : Bool) (after : List ℕ) → allows goal (number_kind big) after ≡ true
unfolding allows number_kind role_of may_close may_stand
number_allows goal true after = refl
number_allows goal false after = refl

number_apart : (big : Bool) (after : List ℕ) → joins after ≡ false → stands_apart (number_kind big) after ≡ true
unfolding stands_apart number_kind
number_apart true after e = ap not e
number_apart false after e = ap not e

number_no_comment : (big : Bool) (s after : List ℕ) → IsNumber big s → begins_comment (s ++ after) ≡ false
number_no_comment big [] after i = absurd (digits.no_empty big i)
number_no_comment big (b ∷ s) after i =
    start_no_comment_by b (s ++ after) (is_ascii_digit b) refl
    (starts_number b (s ++ after) (digits.begins big (b ∷ s) after i))

longest_number : (at : ℕ) (big : Bool) (s after : List ℕ)
    → number_end at (s ++ after) ≡ record { big = big; end = at + length s } → IsLongestNumber s after
longest_number at big s after e other more rest w i =
    let same : (s ++ more) ++ rest ≡ s ++ after = append_assoc s more rest ∙ ap (λ t. s ++ t) (sym w) in
    let l : at + length (s ++ more) ≤ (number_end at ((s ++ more) ++ rest)).end =
    digits.number_reaches at other (s ++ more) rest i in
    let end : (number_end at ((s ++ more) ++ rest)).end ≡ at + length s =
    ap (λ t. (number_end at t).end) same ∙ ap (λ (n : NumberEnd). n.end) e in
    nil_from_length more (omega (arith, length-append s more))

number_found_by : (goal : Goal) (at : ℕ) (big : Bool) (s after text : List ℕ) (v : Bool) → text ≡ s ++ after
    → IsNumber big s → IsLongestNumber s after → joins after ≡ v → Found goal at text (look_at goal at text)
number_found_by goal at big s after text true w i l p =
    fault InvalidChar (at + length s) (joined big s after w i l p refl refl)
    (ap (look_at goal at) w ∙ number_stuck goal at big s after i l p)
number_found_by goal at big s after text false w i l p =
    met goal at (number_kind big) s after text _ w (number big i refl) (number_allows goal big after)
    (number_no_comment big s after i) (number_apart big after p) refl
    (ap (look_at goal at) w ∙ (spelled_looks goal at big s after i ∙ (number_at at big s after i l
    ∙ apart_token (record { big = big; end = at + length s }) after p)))

number_class : (goal : Goal) (at b : ℕ) (rest : List ℕ) → begins_number (b ∷ rest) ≡ true
    → Found goal at (b ∷ rest) (look_at goal at (b ∷ rest))
number_class goal at b rest h =
    let f : digits.NumberFound at (b ∷ rest) (number_end at (b ∷ rest)) = digits.number_finds at b rest h in
    number_found_by goal at f.big f.part f.after (b ∷ rest) (joins f.after) f.whole f.is
    (longest_number at f.big f.part f.after (ap (number_end at) (sym f.whole) ∙ f.end)) refl

dot_class_by : (goal : Goal) (at b : ℕ) (rest : List ℕ) (v : Bool) → begins_digit rest ≡ v → first_of b ≡ first.Dot
    → Found goal at (b ∷ rest) (look_at goal at (b ∷ rest))
dot_class_by goal at b rest true d f = number_class goal at b rest (point_starts b rest (dot_is b f) d)
dot_class_by goal at b rest false d f =
    subst (Found goal at (b ∷ rest)) (sym (dot_same goal at b rest f d))
    (sign_found goal at b rest (sign_at (b ∷ rest)) (dot f d) (no_comment_at b rest first.Dot f (λ e. cc))
    (dot_same goal at b rest f d) (mark.sign_finds b rest))

is_backslash : (b : ℕ) (rest : List ℕ) → b ≡ 92 → begins_backslash (b ∷ rest) ≡ true
unfolding begins_backslash
is_backslash b rest e = eq-eqb b 92 e

backslash_found : (goal : Goal) (at b : ℕ) (rest : List ℕ) (v : Bool) → first_of b ≡ first.Backslash
    → begins_name (b ∷ rest) ≡ v → Found goal at (b ∷ rest) (look_at goal at (b ∷ rest))
backslash_found goal at b rest true f e = word_met goal at (b ∷ rest) e (word_parts at (b ∷ rest))
backslash_found goal at b rest false f e =
    let s : begins_backslash (b ∷ rest) ≡ true = is_backslash b rest (backslash_is b f) in
    fault (backslash_fault (b ∷ rest)) at (bad_name s e refl refl) (word_stuck goal at (b ∷ rest) s e)

class_found : (goal : Goal) (at b : ℕ) (rest : List ℕ) (c : First) → first_of b ≡ c
    → Found goal at (b ∷ rest) (look_at goal at (b ∷ rest))
unfolding look_at class_look
class_found goal at b rest first.Blank f =
    rw f (piece (blank (b ∷ [])) rest refl (inl (record { byte = b; whole = refl; is = f })) refl)
class_found goal at b rest first.LineEnd f =
    rw f (piece (line_end (b ∷ [])) rest refl (inl (record { byte = b; whole = refl; is = f })) refl)
class_found goal at b rest first.Start f =
    word_met goal at (b ∷ rest) (start_name b rest (start_is b f)) (word_parts at (b ∷ rest))
class_found goal at b rest first.Backslash f = backslash_found goal at b rest (begins_name (b ∷ rest)) f refl
class_found goal at b rest first.Wide f =
    wide_found goal at b rest (wide_size (b ∷ rest)) (wide_blank (b ∷ rest)) (wide_line (b ∷ rest)) f refl refl refl
class_found goal at b rest first.Quote f =
    string_class goal at b rest f
class_found goal at b rest first.Slash f =
    subst (λ (c : ℕ). Found goal at (c ∷ rest) (look_at goal at (c ∷ rest))) (sym (slash_is b f))
    (subst (Found goal at (47 ∷ rest)) (sym (slash_looks goal at rest))
    (slash_found goal at rest (slash_looks goal at rest)))
class_found goal at b rest first.Backtick f = tick_class goal at b rest f
class_found goal at b rest first.Brace f = brace_class_by goal at b rest (is_open goal.bracket Template) refl f
class_found goal at b rest first.Hash f =
    subst (λ (c : ℕ). Found goal at (c ∷ rest) (look_at goal at (c ∷ rest))) (sym (hash_is b f)) (hash_at goal at rest)
class_found goal at b rest first.Digit f = number_class goal at b rest (digit_starts b rest (digit_is b f))
class_found goal at b rest first.Dot f = dot_class_by goal at b rest (begins_digit rest) refl f
class_found goal at b rest first.Other f = other_class goal at b rest f

end_found : (goal : Goal) (at : ℕ) (bracket : Option BracketKind) → goal.bracket ≡ bracket
    → Found goal at [] (end_look bracket at)
unfolding end_look
end_found goal at None e = ended refl e refl
end_found goal at (Some bracket) e = fault Unbalanced at (open_bracket bracket refl e refl refl) refl

pub look_finds : (goal : Goal) (at : ℕ) (text : List ℕ) → Found goal at text (look_at goal at text)
unfolding look_at
look_finds goal at [] = end_found goal at goal.bracket refl
look_finds goal at (b ∷ rest) = class_found goal at b rest (first_of b) refl

-- ---- a token is what a look at it finds
pub record Prefix (s t a b : List ℕ) : Type 0 where
  pub more : List ℕ
  pub longer : t ≡ s ++ more
  pub behind : a ≡ more ++ b

prefix : (s t a b : List ℕ) → s ++ a ≡ t ++ b → length s ≤ length t → Prefix s t a b
prefix [] t a b e l = record { more = t; longer = refl; behind = e }
prefix (x ∷ s) [] a b e l = absurd (omega arith)
prefix (x ∷ s) (y ∷ t) a b e l =
    let heads : x ≡ y = cc in
    let tails : s ++ a ≡ t ++ b = cc in
    let p : Prefix s t a b = prefix s t a b tails (omega arith) in
    let longer : t ≡ s ++ p.more = p.longer in
    record { more = p.more; longer = cc; behind = p.behind }

token_reads_by : (goal : Goal) (at : ℕ) (k : TokenKind) (s after : List ℕ) (found : Look) → IsToken goal k s after
    → Reached k (at + length s) found → Found goal at (s ++ after) found → found ≡ look.Token k (at + length s)
token_reads_by goal at k s after found t (reached j m f l g) (ended w b e) = cc
token_reads_by goal at k s after found t (reached j m f l g) (fault kind place h e) = cc
token_reads_by goal at k s after found t (reached j m f l g) (piece (blank r) rest w h e) = cc
token_reads_by goal at k s after found t (reached j m f l g) (piece (line_end r) rest w h e) = cc
token_reads_by goal at k s after found t (reached j m f l g) (piece (comment c r) rest w h e) = cc
token_reads_by goal at k s after found t (reached j m f l g) (piece (token i r) rest w h e) =
    let kinds : j ≡ i = cc in
    let ends : m ≡ at + length r = cc in
    let p : Prefix s r after rest = prefix s r after rest w (omega arith) in
    let spells : Spells goal i (s ++ p.more) = subst (Spells goal i) p.longer h.spells in
    let none : p.more ≡ [] = t.longest i p.more rest p.behind spells h.allowed in
    let size : length r ≡ length (s ++ p.more) = ap length p.longer in
    let empty : length p.more ≡ 0 = ap length none in
    let end : at + length s ≡ m = omega (arith, length-append s p.more) in
    let same : k ≡ j = g end in
    f ∙ cc

apart_back : (big : Bool) (after : List ℕ) → stands_apart (number_kind big) after ≡ true → joins after ≡ false
unfolding stands_apart number_kind
apart_back true after e = remark.not_true (joins after) e
apart_back false after e = remark.not_true (joins after) e

number_reads : (goal : Goal) (at : ℕ) (k : TokenKind) (s after : List ℕ) (big : Bool) → IsToken goal k s after
    → IsNumber big s → k ≡ number_kind big → look_at goal at (s ++ after) ≡ look.Token k (at + length s)
number_reads goal at k s after big t i e =
    let l : IsLongestNumber s after =
    λ other more rest w j. t.longest (number_kind other) more rest w (number other j refl)
    (number_allows goal other rest) in
    spelled_looks goal at big s after i ∙ (number_at at big s after i l
    ∙ (apart_token (record { big = big; end = at + length s }) after
    (apart_back big after (subst (λ (j : TokenKind). stands_apart j after ≡ true) e t.apart))
    ∙ ap (λ j. look.Token j (at + length s)) (sym e)))

token_reads_limited : (goal : Goal) (at : ℕ) (k : TokenKind) (s after : List ℕ) → IsToken goal k s after
    → Limited k s (at + length s) (look_at goal at (s ++ after))
    → look_at goal at (s ++ after) ≡ look.Token k (at + length s)
token_reads_limited goal at k s after t (by_reach r) =
    token_reads_by goal at k s after _ t r (look_finds goal at (s ++ after))
token_reads_limited goal at k s after t (by_number big i e) = number_reads goal at k s after big t i e

token_reads : (goal : Goal) (at : ℕ) (k : TokenKind) (s after : List ℕ) → IsToken goal k s after
    → look_at goal at (s ++ after) ≡ look.Token k (at + length s)
token_reads goal at k s after t =
    token_reads_limited goal at k s after t (reaches goal at k s after t.spells t.allowed t.no_comment)

byte_reads : (goal : Goal) (at : ℕ) (s after : List ℕ) (c : First) → (b : IsByte c s)
    → look_at goal at (s ++ after) ≡ class_look c goal at b.byte after
unfolding look_at
byte_reads goal at s after c b = rw (b.whole, b.is) refl

long_reads : (goal : Goal) (at b : ℕ) (rest : List ℕ) (n : ℕ) → wide_blank (b ∷ rest) ≡ suc n
    → look_at goal at (b ∷ rest) ≡ look.Blank (at + suc n)
long_reads goal at b rest n e =
    wide_looks goal at b rest (wide_class b (let l : 192 ≤ b = wide.blank_begins b rest n e in omega arith))
    ∙ blank_looks goal at (b ∷ rest) n e

blank_reads : (goal : Goal) (at : ℕ) (s after : List ℕ) → 0 < length s → wide_blank s ≡ length s
    → look_at goal at (s ++ after) ≡ look.Blank (at + length s)
blank_reads goal at [] after l e = absurd (omega arith)
blank_reads goal at (b ∷ s) after l e =
    long_reads goal at b (s ++ after) (length s) (wide.blank_local (b ∷ s) after l e)

far_reads : (goal : Goal) (at b : ℕ) (rest : List ℕ) (n : ℕ) → wide_line (b ∷ rest) ≡ suc n
    → look_at goal at (b ∷ rest) ≡ look.LineEnd (at + suc n)
far_reads goal at b rest n e =
    wide_looks goal at b rest (wide_class b (let l : 192 ≤ b = wide.line_begins b rest n e in omega arith))
    ∙ line_looks goal at (b ∷ rest) n e

line_reads : (goal : Goal) (at : ℕ) (s after : List ℕ) → 0 < length s → wide_line s ≡ length s
    → look_at goal at (s ++ after) ≡ look.LineEnd (at + length s)
line_reads goal at [] after l e = absurd (omega arith)
line_reads goal at (b ∷ s) after l e =
    far_reads goal at b (s ++ after) (length s) (wide.line_local (b ∷ s) after l e)

pub piece_reads : (goal : Goal) (at : ℕ) (piece : Piece) (after : List ℕ) → IsPiece goal piece after
    → look_at goal at (spelling piece ++ after) ≡ reading_of at piece
unfolding class_look
piece_reads goal at (blank s) after (inl h) =
    byte_reads goal at s after first.Blank h ∙ ap (λ t. look.Blank (at + length t)) (sym h.whole)
piece_reads goal at (blank s) after (inr h) = blank_reads goal at s after h.0 h.1
piece_reads goal at (line_end s) after (inl h) =
    byte_reads goal at s after first.LineEnd h ∙ ap (λ t. look.LineEnd (at + length t)) (sym h.whole)
piece_reads goal at (line_end s) after (inr h) = line_reads goal at s after h.0 h.1
piece_reads goal at (comment kind text) after h = comment_reads goal at kind text after h
piece_reads goal at (token k s) after h = token_reads goal at k s after h
