-- Where a quote stands behind a token of a text, no longer token stands there, whatever stands behind the quote.
use Rattle.std.proofs.Common.{◌≡◌, ℕ, zero, suc, ◌+◌, ◌-◌, ◌<◌, ◌≤◌, Bool, true, false, ◌&&◌, ◌||◌, ◌==◌, List, [], ◌∷◌, ◌++◌, length, drop, Option, Some, None, refl, sym, ◌∙◌, ap, subst, arith, length-append, append_assoc, true≢false, if◌then◌else◌, ◌⊎◌, inl, inr}
use Rattle.es_literal.specs.Strings.{is_quote, IsString, string_end}
use Rattle.es_literal.specs.declared.string.StringEnd.{StringEnd}
use Rattle.es_literal.specs.declared.string.StringEnd.TheVariants as string
use Rattle.es_literal.proofs.StringLemmas as literal
use Rattle.es_literal.specs.spelling.Units.{units_end}
use Rattle.es_literal.specs.declared.spelling.template.TemplateEnd.{TemplateEnd}
use Rattle.es_literal.specs.declared.spelling.template.TemplateEnd.TheVariants.{Closes, Substitutes, Unclosed}
use Rattle.es_literal.specs.spelling.Templates.{template_end, IsTemplateText}
use Rattle.es_literal.proofs.spelling_lemmas.TemplateLemmas as text
use Rattle.es_literal.specs.spelling.RegExps.{IsBody, body_end}
use Rattle.es_literal.proofs.spelling_lemmas.RegExpLemmas as pattern
use Rattle.es_token.specs.declared.token.TokenKind.{TokenKind}
use Rattle.es_token.specs.declared.token.TokenKind.TheVariants as kind
use Rattle.es_lexer.specs.declared.bracket.BracketKind.TheVariants.{Template}
use Rattle.es_lexer.specs.declared.goal.Goal.{Goal}
use Rattle.es_lexer.specs.declared.look.Look.TheVariants as look
use Rattle.es_lexer.specs.Bytes.{begins_comment, has_line_end, ends_line, part_unit}
use Rattle.es_lexer.specs.Brackets.{role_of, is_open, may_close}
use Rattle.es_lexer.specs.Goal.{may_stand, allows}
use Rattle.es_lexer.specs.Pieces.{token}
use Rattle.es_lexer.specs.Look.{string_look, template_look, brace_look, slash_look, divide_look, regexp_look, hash_look, flags_end, line_stop, class_look, look_at}
use Rattle.es_lexer.specs.Spelling.{Spells, word, str, sign, private_name, template, number, regexp, shebang, IsRegExp, template_start, template_stop, template_kind}
use Rattle.es_lexer.specs.Readable.{IsToken}
use Rattle.es_lexer.proofs.ByteLemmas.{quote_class, slash_class, backtick_class, brace_class, hash_class}
use Rattle.es_lexer.proofs.LookLemmas.{piece_reads}
use Rattle.es_lexer.proofs.PlaceLemmas.{literal_of}
use Rattle.es_lexer.proofs.SpellingLemmas.{not_empty}
use Rattle.es_lexer.proofs.LineLemmas as line
use Rattle.es_law_edits.proofs.tokens.Twins.{Twin, cut, twin_behind, twin_ends}
use Rattle.es_law_edits.proofs.tokens.Unquoted.{Unquoted, no_quote, word_plain, sign_plain, number_plain, flags_plain}

-- a text with a quote in it
abbrev pub Quoted : List ℕ → List ℕ → List ℕ → ℕ → List ℕ → Type 0
Quoted text s u q v = text ≡ s ++ (u ++ q ∷ v)

not_plain : (s u : List ℕ) (q : ℕ) (v : List ℕ) → Unquoted (s ++ (u ++ q ∷ v)) → is_quote q ≡ true → ⊥
not_plain s u q v h e = no_quote (s ++ u) q v (subst Unquoted (sym (append_assoc s u (q ∷ v))) h) e

longer : (u : List ℕ) (q : ℕ) (v : List ℕ) → 0 < length (u ++ q ∷ v)
longer u q v = omega (arith, length-append u (q ∷ v))

-- ---- a string literal
string_kind : (at : ℕ) (end : StringEnd) (k : TokenKind) (m : ℕ) → string_look at end ≡ look.Token k m → k ≡ kind.Str
unfolding string_look
string_kind at (string.Closes end) k m e = cc
string_kind at (string.InvalidEscape place) k m e = cc
string_kind at string.Unclosed k m e = cc

pub quote_looks : (goal : Goal) (at b : ℕ) (rest : List ℕ) → is_quote b ≡ true
    → look_at goal at (b ∷ rest) ≡ string_look at (string_end at (b ∷ rest))
unfolding look_at class_look
quote_looks goal at b rest f = rw (quote_class b f) refl

two_strings : (s more : List ℕ) → IsString s → IsString (s ++ more) → 0 < length more → ⊥
two_strings s more i j l =
    let one : string_end 0 (s ++ (more ++ [])) ≡ string.Closes (0 + length s) =
    literal.closes_found 0 s (more ++ []) i in
    let two : string_end 0 ((s ++ more) ++ []) ≡ string.Closes (0 + length (s ++ more)) =
    literal.closes_found 0 (s ++ more) [] j in
    let same : string.Closes (0 + length s) ≡ string.Closes (0 + length (s ++ more)) =
    sym one ∙ (ap (string_end 0) (sym (append_assoc s more [])) ∙ two) in
    let ends : 0 + length s ≡ 0 + length (s ++ more) = cc in
    absurd (omega (arith, ends, length-append s more))

string_first : (b : ℕ) (s more : List ℕ) → IsString (b ∷ (s ++ more)) → is_quote b ≡ true
string_first b s more i = let whole = i.whole in let heads : b ≡ i.quote = cc in ap is_quote heads ∙ i.quotes

cut_string : (goal : Goal) (k : TokenKind) (b : ℕ) (s a more : List ℕ) → IsToken goal k (b ∷ s) a
    → IsString ((b ∷ s) ++ more) → 0 < length more → ⊥
cut_string goal k b s a more t i l =
    let reads : look_at goal 0 (b ∷ (s ++ a)) ≡ look.Token k (0 + length (b ∷ s)) =
    piece_reads goal 0 (token k (b ∷ s)) a t in
    let is_str : k ≡ kind.Str =
    string_kind 0 _ k _ (sym (quote_looks goal 0 b (s ++ a) (string_first b s more i)) ∙ reads) in
    two_strings (b ∷ s) more (literal_of goal k (b ∷ s) is_str t.spells) i l

-- ---- templates
backtick_looks : (goal : Goal) (at : ℕ) (rest : List ℕ)
    → look_at goal at (96 ∷ rest) ≡ template_look true at (template_end (at + 1) rest)
unfolding look_at class_look
backtick_looks goal at rest = rw backtick_class refl

brace_looks : (goal : Goal) (at : ℕ) (rest : List ℕ) → is_open goal.bracket Template ≡ true
    → look_at goal at (125 ∷ rest) ≡ template_look false at (template_end (at + 1) rest)
unfolding look_at class_look brace_look
brace_looks goal at rest e = rw (brace_class, e) refl

pub same_front : (s t a b : List ℕ) → s ++ a ≡ t ++ b → length s ≡ length t → s ≡ t
same_front [] [] a b e l = refl
same_front [] (y ∷ t) a b e l = absurd (omega arith)
same_front (x ∷ s) [] a b e l = absurd (omega arith)
same_front (x ∷ s) (y ∷ t) a b e l =
    let heads : x ≡ y = cc in
    let tails : s ++ a ≡ t ++ b = cc in
    let fronts : s ≡ t = same_front s t a b tails (omega arith) in cc

-- a text of a template, with one of its ends
abbrev Texts : List ℕ → Type 0
Texts s = IsTemplateText (96 ∷ []) s ⊎ IsTemplateText (36 ∷ 123 ∷ []) s

look_end : (opens : Bool) (at m : ℕ) (k : TokenKind) (end : ℕ) → template_look opens at (Closes end) ≡ look.Token k m
    → end ≡ m
unfolding template_look
look_end opens at m k end e = cc

look_more : (opens : Bool) (at m : ℕ) (k : TokenKind) (end : ℕ)
    → template_look opens at (Substitutes end) ≡ look.Token k m → end ≡ m
unfolding template_look
look_more opens at m k end e = cc

look_none : (opens : Bool) (at m : ℕ) (k : TokenKind) → template_look opens at Unclosed ≡ look.Token k m → ⊥
unfolding template_look
look_none opens at m k e = cc

text_by : (opens : Bool) (k : TokenKind) (s a : List ℕ) (found : TemplateEnd) → text.TextFound 1 (s ++ a) found
    → template_look opens 0 found ≡ look.Token k (0 + (1 + length s)) → Texts s
text_by opens k s a found (text.closes t b w i f) e =
    let ends : 1 + length t ≡ 0 + (1 + length s) = look_end opens 0 _ k _ (ap (template_look opens 0) (sym f) ∙ e) in
    inl (subst (IsTemplateText (96 ∷ [])) (sym (same_front s t a b w (omega arith))) i)
text_by opens k s a found (text.substitutes t b w i f) e =
    let ends : 1 + length t ≡ 0 + (1 + length s) = look_more opens 0 _ k _ (ap (template_look opens 0) (sym f) ∙ e) in
    inr (subst (IsTemplateText (36 ∷ 123 ∷ [])) (sym (same_front s t a b w (omega arith))) i)
text_by opens k s a found (text.unclosed i f) e =
    absurd (look_none opens 0 _ k (ap (template_look opens 0) (sym f) ∙ e))

end_of : TemplateEnd → ℕ
end_of (Closes end) = end
end_of (Substitutes end) = end
end_of Unclosed = 0

texts_end : (s after : List ℕ) → Texts s → end_of (template_end 1 (s ++ after)) ≡ 1 + length s
unfolding end_of
texts_end s after (inl i) = ap end_of (text.closes_found 1 s after i)
texts_end s after (inr i) = ap end_of (text.substitutes_found 1 s after i)

two_texts : (s more : List ℕ) → Texts s → Texts (s ++ more) → 0 < length more → ⊥
two_texts s more i j l =
    let one = texts_end s (more ++ []) i in
    let two = texts_end (s ++ more) [] j in
    let same : end_of (template_end 1 ((s ++ more) ++ [])) ≡ end_of (template_end 1 (s ++ (more ++ []))) =
    ap (λ z. end_of (template_end 1 z)) (append_assoc s more []) in
    let ends : 1 + length (s ++ more) ≡ 1 + length s = sym two ∙ (same ∙ one) in
    absurd (omega (arith, ends, length-append s more))

texts_of : (substitutes : Bool) (s : List ℕ) → IsTemplateText (template_stop substitutes) s → Texts s
unfolding template_stop
texts_of true s i = inr i
texts_of false s i = inl i

template_looks : (goal : Goal) (opens : Bool) (rest : List ℕ) → (opens ≡ false → is_open goal.bracket Template ≡ true)
    → look_at goal 0 (template_start opens ∷ rest) ≡ template_look opens 0 (template_end 1 rest)
unfolding template_start
template_looks goal true rest h =
    backtick_looks goal 0 rest
    ∙ ap (λ n. template_look true 0 (template_end n rest)) (let e : 0 + 1 ≡ 1 = omega arith in e)
template_looks goal false rest h =
    brace_looks goal 0 rest (h refl)
    ∙ ap (λ n. template_look false 0 (template_end n rest)) (let e : 0 + 1 ≡ 1 = omega arith in e)

both_left : (u v : Bool) → (u && v) ≡ true → u ≡ true
both_left true v e = refl
both_left false v e = cc

both_right : (u v : Bool) → (u && v) ≡ true → v ≡ true
both_right true v e = e
both_right false v e = cc

template_open : (goal : Goal) (opens sub : Bool) (rest : List ℕ) → allows goal (template_kind opens sub) rest ≡ true
    → opens ≡ false → is_open goal.bracket Template ≡ true
unfolding allows may_close role_of template_kind
template_open goal true sub rest a e = cc
template_open goal false true rest a e = both_left _ _ a
template_open goal false false rest a e = both_left _ _ a

cut_template : (goal : Goal) (k : TokenKind) (b : ℕ) (s a more rest body : List ℕ) (opens sub : Bool)
    → IsToken goal k (b ∷ s) a → IsTemplateText (template_stop sub) body
    → (b ∷ s) ++ more ≡ template_start opens ∷ body → allows goal (template_kind opens sub) rest ≡ true
    → 0 < length more → ⊥
cut_template goal k b s a more rest body opens sub t i w al l =
    let heads : b ≡ template_start opens = cc in
    let tails : s ++ more ≡ body = cc in
    let reads : look_at goal 0 (b ∷ (s ++ a)) ≡ look.Token k (0 + length (b ∷ s)) =
    piece_reads goal 0 (token k (b ∷ s)) a t in
    let looks = template_looks goal opens (s ++ a) (template_open goal opens sub rest al) in
    let size : 0 + length (b ∷ s) ≡ 0 + (1 + length s) = omega arith in
    let found : template_look opens 0 (template_end 1 (s ++ a)) ≡ look.Token k (0 + (1 + length s)) =
    sym looks ∙ (ap (λ c. look_at goal 0 (c ∷ (s ++ a))) (sym heads) ∙ (reads ∙ ap (look.Token k) size)) in
    two_texts s more (text_by opens k s a _ (text.text_finds 1 (s ++ a)) found)
    (texts_of sub (s ++ more) (subst (IsTemplateText (template_stop sub)) (sym tails) i)) l

-- ---- regular expressions
slash_by : (goal : Goal) (b : ℕ) (rest : List ℕ) (u v : Bool) → (b == 47) ≡ u → (b == 42) ≡ v → (u || v) ≡ false
    → goal.regexp ≡ true → slash_look goal 0 (b ∷ rest) ≡ regexp_look 0 (body_end 1 (b ∷ rest)) (b ∷ rest)
unfolding slash_look divide_look
slash_by goal b rest true v p q e g = cc
slash_by goal b rest false true p q e g = cc
slash_by goal b rest false false p q e g = rw (p, q, g) refl

slash_more : (goal : Goal) (rest : List ℕ) → begins_comment (47 ∷ rest) ≡ false → goal.regexp ≡ true
    → slash_look goal 0 rest ≡ regexp_look 0 (body_end 1 rest) rest
unfolding slash_look divide_look begins_comment
slash_more goal [] n g = rw g refl
slash_more goal (b ∷ rest) n g = slash_by goal b rest (b == 47) (b == 42) refl refl n g

slash_looks : (goal : Goal) (rest : List ℕ) → begins_comment (47 ∷ rest) ≡ false → goal.regexp ≡ true
    → look_at goal 0 (47 ∷ rest) ≡ regexp_look 0 (body_end 1 rest) rest
unfolding look_at class_look
slash_looks goal rest n g = rw slash_class (slash_more goal rest n g)

low_by : (size : List ℕ → ℕ) (at b : ℕ) (s : List ℕ) (v : Bool) → at + 1 ≤ units_end size (at + 1) (size (b ∷ s) - 1) s
    → at ≤ (if v then at else units_end size (at + 1) (size (b ∷ s) - 1) s)
low_by size at b s true l = omega arith
low_by size at b s false l = omega arith

units_low : (size : List ℕ → ℕ) (at left : ℕ) (s : List ℕ) → at ≤ units_end size at left s
unfolding units_end
units_low size at left [] = omega arith
units_low size at zero (b ∷ s) = low_by size at b s (size (b ∷ s) == 0) (units_low size (at + 1) (size (b ∷ s) - 1) s)
units_low size at (suc left) (b ∷ s) =
    let l : at + 1 ≤ units_end size (at + 1) left s = units_low size (at + 1) left s in omega arith

-- a front of a text that isn't longer than another front is a front of it
record Front (s t a b : List ℕ) : Type 0 where
  pub more : List ℕ
  pub longer : t ≡ s ++ more

front : (s t a b : List ℕ) → s ++ a ≡ t ++ b → length s ≤ length t → Front s t a b
front [] t a b e l = record { more = t; longer = refl }
front (x ∷ s) [] a b e l = absurd (omega arith)
front (x ∷ s) (y ∷ t) a b e l =
    let heads : x ≡ y = cc in
    let tails : s ++ a ≡ t ++ b = cc in
    let p : Front s t a b = front s t a b tails (omega arith) in
    let longer : t ≡ s ++ p.more = p.longer in
    record { more = p.more; longer = cc }

pub same_back : (s t a b : List ℕ) → s ++ a ≡ t ++ b → length s ≡ length t → a ≡ b
same_back [] [] a b e l = e
same_back [] (y ∷ t) a b e l = absurd (omega arith)
same_back (x ∷ s) [] a b e l = absurd (omega arith)
same_back (x ∷ s) (y ∷ t) a b e l = let tails : s ++ a ≡ t ++ b = cc in same_back s t a b tails (omega arith)

regexp_goal : (goal : Goal) (rest : List ℕ) → allows goal kind.RegExp rest ≡ true → goal.regexp ≡ true
unfolding allows may_stand
regexp_goal goal rest a = both_right _ _ a

regexp_end : (at end m : ℕ) (rest : List ℕ) (k : TokenKind) → regexp_look at (Some end) rest ≡ look.Token k m → end ≤ m
unfolding regexp_look flags_end
regexp_end at end m rest k e =
    let l : end ≤ units_end part_unit end 0 (drop (end - (at + 1)) rest) = units_low part_unit end 0 _ in
    let f : units_end part_unit end 0 (drop (end - (at + 1)) rest) ≡ m = cc in omega arith

regexp_none : (at m : ℕ) (rest : List ℕ) (k : TokenKind) → regexp_look at None rest ≡ look.Token k m → ⊥
unfolding regexp_look
regexp_none at m rest k e = cc

-- the body of the regular expression is within the token
body_within : (k : TokenKind) (s a : List ℕ) (found : Option ℕ) → pattern.BodyFound 1 (s ++ a) found
    → regexp_look 0 found (s ++ a) ≡ look.Token k (0 + length (47 ∷ s))
    → (body : List ℕ) × (IsBody body × ((f : List ℕ) × (s ≡ body ++ f)))
body_within k s a found (pattern.closes body after w i f) e =
    let l : 1 + length body ≤ 0 + length (47 ∷ s) =
    regexp_end 0 (1 + length body) (0 + length (47 ∷ s)) (s ++ a) k (ap (λ z. regexp_look 0 z (s ++ a)) (sym f) ∙ e) in
    let p : Front body s after a = front body s after a (sym w) (omega arith) in
    (body, (i, (p.more, p.longer)))
body_within k s a found (pattern.none n f) e =
    absurd (regexp_none 0 (0 + length (47 ∷ s)) (s ++ a) k (ap (λ z. regexp_look 0 z (s ++ a)) (sym f) ∙ e))

two_bodies : (body f other flags : List ℕ) → IsBody body → IsBody other → body ++ f ≡ other ++ flags → f ≡ flags
two_bodies body f other flags i j w =
    let one : body_end 1 (body ++ f) ≡ Some (1 + length body) = pattern.body_found 1 body f i in
    let two : body_end 1 (other ++ flags) ≡ Some (1 + length other) = pattern.body_found 1 other flags j in
    let same : Some (1 + length body) ≡ Some (1 + length other) = sym one ∙ (ap (body_end 1) w ∙ two) in
    let ends : 1 + length body ≡ 1 + length other = cc in
    same_back body other f flags w (omega arith)

cut_regexp : (goal : Goal) (k : TokenKind) (b : ℕ) (s a u v rest : List ℕ) (q : ℕ) → is_quote q ≡ true
    → IsToken goal k (b ∷ s) a → IsRegExp ((b ∷ s) ++ (u ++ q ∷ v)) → allows goal kind.RegExp rest ≡ true → ⊥
cut_regexp goal k b s a u v rest q f t i al =
    let whole = i.whole in
    let heads : b ≡ 47 = cc in
    let tails : s ++ (u ++ q ∷ v) ≡ i.body ++ i.flags = cc in
    let reads : look_at goal 0 (b ∷ (s ++ a)) ≡ look.Token k (0 + length (b ∷ s)) =
    piece_reads goal 0 (token k (b ∷ s)) a t in
    let plain : begins_comment (47 ∷ (s ++ a)) ≡ false =
    ap (λ c. begins_comment (c ∷ (s ++ a))) (sym heads) ∙ t.no_comment in
    let found : regexp_look 0 (body_end 1 (s ++ a)) (s ++ a) ≡ look.Token k (0 + length (47 ∷ s)) =
    sym (slash_looks goal (s ++ a) plain (regexp_goal goal rest al))
    ∙ (ap (λ c. look_at goal 0 (c ∷ (s ++ a))) (sym heads) ∙ reads) in
    let inside = body_within k s a (body_end 1 (s ++ a)) (pattern.body_finds 1 (s ++ a)) found in
    let body : List ℕ = inside.0 in
    let left : List ℕ = inside.1.1.0 in
    let cut : s ≡ body ++ left = inside.1.1.1 in
    let flags : left ++ (u ++ q ∷ v) ≡ i.flags =
    two_bodies body (left ++ (u ++ q ∷ v)) i.body i.flags inside.1.0 i.closes
    (sym (append_assoc body left (u ++ q ∷ v)) ∙ (ap (λ z. z ++ (u ++ q ∷ v)) (sym cut) ∙ tails)) in
    not_plain left u q v (subst Unquoted (sym flags) (flags_plain i.flags i.goes_on)) f

-- ---- shebangs
no_mark : is_quote 33 ≡ true → ⊥
unfolding is_quote
no_mark e = cc

shebang_looks : (goal : Goal) (rest : List ℕ) → goal.front ≡ true
    → look_at goal 0 (35 ∷ 33 ∷ rest) ≡ look.Token kind.Shebang (line_stop (0 + 2) rest)
unfolding look_at class_look hash_look
shebang_looks goal rest f = rw (hash_class, f) refl

line_low : (at : ℕ) (s : List ℕ) → at ≤ line_stop at s
line_low at s = let r : line.Run at s = line.run at s in let e = r.end in omega (arith, e)

shebang_ends : (goal : Goal) (k : TokenKind) (a : List ℕ) → k ≡ kind.Shebang → allows goal k a ≡ true
    → ends_line a ≡ true
unfolding allows may_stand
shebang_ends goal k a e al =
    both_right (may_close goal.bracket (role_of kind.Shebang)) (ends_line a)
    (subst (λ (j : TokenKind). (may_close goal.bracket (role_of j) && may_stand goal.regexp j a) ≡ true) e al)

ends_has : (u : List ℕ) (q : ℕ) (v : List ℕ) → ends_line (u ++ q ∷ v) ≡ true → has_line_end (u ++ q ∷ v) ≡ true
unfolding ends_line has_line_end
ends_has [] q v e = rw e refl
ends_has (b ∷ u) q v e = rw e refl

or_true : (v : Bool) → (v || true) ≡ true
or_true true = refl
or_true false = refl

cut_shebang : (goal : Goal) (k : TokenKind) (s a u v w text : List ℕ) (q r : ℕ) → is_quote q ≡ true → is_quote r ≡ true
    → IsToken goal k s a → a ≡ u ++ r ∷ w → has_line_end text ≡ false → goal.front ≡ true
    → s ++ (u ++ q ∷ v) ≡ 35 ∷ 33 ∷ text → ⊥
cut_shebang goal k [] a u v w text q r f g t e h fr c = not_empty goal k t.spells
cut_shebang goal k (x ∷ []) a [] v w text q r f g t e h fr c =
    let mark : q ≡ 33 = cc in
    let bad : is_quote 33 ≡ true = ap is_quote (sym mark) ∙ f in no_mark bad
cut_shebang goal k (x ∷ []) a (y ∷ u) v w text q r f g t e h fr c =
    let one : x ≡ 35 = cc in
    let two : y ≡ 33 = cc in
    let reads : look_at goal 0 (x ∷ a) ≡ look.Token k (0 + length (x ∷ [])) =
    piece_reads goal 0 (token k (x ∷ [])) a t in
    let same : x ∷ a ≡ 35 ∷ 33 ∷ (u ++ r ∷ w) = cc in
    let kinds : look.Token k (0 + length (x ∷ [])) ≡ look.Token kind.Shebang (line_stop (0 + 2) (u ++ r ∷ w)) =
    sym reads ∙ (ap (look_at goal 0) same ∙ shebang_looks goal (u ++ r ∷ w) fr) in
    let ends : 0 + length (x ∷ []) ≡ line_stop (0 + 2) (u ++ r ∷ w) = cc in
    let low : 0 + 2 ≤ line_stop (0 + 2) (u ++ r ∷ w) = line_low (0 + 2) (u ++ r ∷ w) in
    absurd (omega arith)
cut_shebang goal k (x ∷ y ∷ s) a u v w text q r f g t e h fr c =
    let one : x ≡ 35 = cc in
    let two : y ≡ 33 = cc in
    let tails : s ++ (u ++ q ∷ v) ≡ text = cc in
    let reads : look_at goal 0 (x ∷ y ∷ (s ++ a)) ≡ look.Token k (0 + length (x ∷ y ∷ s)) =
    piece_reads goal 0 (token k (x ∷ y ∷ s)) a t in
    let same : x ∷ y ∷ (s ++ a) ≡ 35 ∷ 33 ∷ (s ++ a) = cc in
    let kinds : look.Token k (0 + length (x ∷ y ∷ s)) ≡ look.Token kind.Shebang (line_stop (0 + 2) (s ++ a)) =
    sym reads ∙ (ap (look_at goal 0) same ∙ shebang_looks goal (s ++ a) fr) in
    let is_shebang : k ≡ kind.Shebang = cc in
    let twins : Twin a (u ++ q ∷ v) =
    subst (λ (z : List ℕ). Twin z (u ++ q ∷ v)) (sym e) (twin_behind u (r ∷ w) (q ∷ v) (cut r q w v g f)) in
    let at_end : ends_line (u ++ q ∷ v) ≡ true =
    sym (twin_ends a (u ++ q ∷ v) twins) ∙ shebang_ends goal k a is_shebang t.allowed in
    let starts = line.line_starts (u ++ q ∷ v) at_end in
    let has : has_line_end text ≡ true =
    ap has_line_end (sym tails) ∙ (line.lines-append s (u ++ q ∷ v) starts
    ∙ (ap (λ z. has_line_end s || z) (ends_has u q v at_end) ∙ or_true (has_line_end s))) in
    true≢false (sym has ∙ h)

-- ---- whatever it is
hash_plain : is_quote 35 ≡ false
unfolding is_quote
hash_plain = refl

pub cut_short : (goal : Goal) (k j : TokenKind) (s a u v w rest : List ℕ) (q r : ℕ) → is_quote q ≡ true
    → is_quote r ≡ true → IsToken goal k s a → a ≡ u ++ r ∷ w → Spells goal j (s ++ (u ++ q ∷ v))
    → allows goal j rest ≡ true → ⊥
cut_short goal k j [] a u v w rest q r f g t e sp al = not_empty goal k t.spells
cut_short goal k j (b ∷ s) a u v w rest q r f g t e (word i d) al = not_plain (b ∷ s) u q v (word_plain _ i) f
cut_short goal k j (b ∷ s) a u v w rest q r f g t e (str i d) al =
    cut_string goal k b s a (u ++ q ∷ v) t i (longer u q v)
cut_short goal k j (b ∷ s) a u v w rest q r f g t e (sign d) al = not_plain (b ∷ s) u q v (sign_plain _ j d) f
cut_short goal k j (b ∷ s) a u v w rest q r f g t e (private_name name i c d) al =
    not_plain (b ∷ s) u q v (subst Unquoted (sym c) (hash_plain, word_plain name i)) f
cut_short goal k j (b ∷ s) a u v w rest q r f g t e (template opens sub body i c d) al =
    cut_template goal k b s a (u ++ q ∷ v) rest body opens sub t i c
    (subst (λ (m : TokenKind). allows goal m rest ≡ true) d al) (longer u q v)
cut_short goal k j (b ∷ s) a u v w rest q r f g t e (number big i d) al =
    not_plain (b ∷ s) u q v (number_plain big _ i) f
cut_short goal k j (b ∷ s) a u v w rest q r f g t e (regexp i d) al =
    cut_regexp goal k b s a u v rest q f t i (subst (λ (m : TokenKind). allows goal m rest ≡ true) d al)
cut_short goal k j (b ∷ s) a u v w rest q r f g t e (shebang text h fr c d) al =
    cut_shebang goal k (b ∷ s) a u v w text q r f g t e h fr c
