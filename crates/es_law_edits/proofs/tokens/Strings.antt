-- A token whose text is a string literal is a `Str`.
use Rattle.std.proofs.Common.{◌≡◌, ℕ, Bool, true, false, List, [], ◌∷◌, ◌++◌, refl, sym, ◌∙◌, ap, subst}
use Rattle.std.proofs.lemmas.Bool.{true≢false}
use Rattle.es_literal.specs.Strings.{is_quote, IsString}
use Rattle.es_literal.specs.spelling.Units.{concat}
use Rattle.es_token.specs.declared.token.TokenKind.{TokenKind}
use Rattle.es_token.specs.declared.token.TokenKind.TheVariants.{Str}
use Rattle.es_lexer.specs.declared.goal.Goal.{Goal}
use Rattle.es_lexer.specs.Spelling.{Spells, word, str, sign, private_name, template, number, regexp, shebang, template_start}
use Rattle.es_law_edits.proofs.tokens.Unquoted.{Unquoted, no_quote, word_plain, sign_plain, number_plain}

-- a text without a quote is no string literal
quoted : (s : List ℕ) → IsString s → Unquoted s → ⊥
quoted s i u = no_quote [] i.quote (concat i.units ++ i.quote ∷ []) (subst Unquoted i.whole u) i.quotes

-- nor is one that begins with another byte
opened : (s : List ℕ) (b : ℕ) (rest : List ℕ) → IsString s → s ≡ b ∷ rest → is_quote b ≡ false → ⊥
opened s b rest i w other =
    let same : i.quote ∷ (concat i.units ++ i.quote ∷ []) ≡ b ∷ rest = sym i.whole ∙ w in
    let first : i.quote ≡ b = cc in
    true≢false (sym i.quotes ∙ (ap is_quote first ∙ other))

template_opens : (opens : Bool) → is_quote (template_start opens) ≡ false
unfolding template_start is_quote
template_opens true = refl
template_opens false = refl

hash_opens : is_quote 35 ≡ false
unfolding is_quote
hash_opens = refl

slash_opens : is_quote 47 ≡ false
unfolding is_quote
slash_opens = refl

pub str_of : (goal : Goal) (k : TokenKind) (s : List ℕ) → Spells goal k s → IsString s → k ≡ Str
str_of goal k s (word w e) i = absurd (quoted s i (word_plain s w))
str_of goal k s (str w e) i = e
str_of goal k s (sign e) i = absurd (quoted s i (sign_plain s k e))
str_of goal k s (private_name name w e f) i = absurd (opened s 35 name i e hash_opens)
str_of goal k s (template opens ends body t e f) i =
    absurd (opened s (template_start opens) body i e (template_opens opens))
str_of goal k s (number big n e) i = absurd (quoted s i (number_plain big s n))
str_of goal k s (regexp r e) i = absurd (opened s 47 (r.body ++ r.flags) i r.whole slash_opens)
str_of goal k s (shebang t h f w e) i = absurd (opened s 35 (33 ∷ t) i w hash_opens)
