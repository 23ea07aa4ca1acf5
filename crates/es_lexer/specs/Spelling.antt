-- Which texts spell a token, by its kind (ECMA-262, "Tokens").
use Rattle.std.specs.Prelude.{◌≡◌, ℕ, Bool, true, false, List, [], ◌∷◌, ◌++◌, Some}
use Rattle.es_lexer.specs.declared.goal.Goal.{Goal}
use Rattle.es_token.specs.declared.token.TokenKind.{TokenKind}
use Rattle.es_token.specs.declared.token.TokenKind.TheVariants.{Shebang, Str, RegExp, Number, BigInt, PrivateName, TemplateWhole, TemplateHead, TemplateMiddle, TemplateTail}
use Rattle.es_lexer.specs.Bytes.{has_line_end, part_unit, word_unit, begins_comment, begins_name}
use Rattle.es_lexer.specs.Words.{kind_at}
use Rattle.es_lexer.specs.Signs.{sign_kind}
use Rattle.es_literal.specs.spelling.Units.{concat, AreUnits}
use Rattle.es_literal.specs.spelling.Templates.{IsTemplateText}
use Rattle.es_literal.specs.spelling.Numbers.{IsNumber}
use Rattle.es_literal.specs.spelling.RegExps.{IsBody}
use Rattle.es_literal.specs.Strings.{IsString}

-- parts in a row, each of the size that is found where it stands
pub record AreParts (size : List ℕ → ℕ) (s : List ℕ) : Type 0 where
  pub units : List (List ℕ)
  pub each : AreUnits size units []
  pub whole : s ≡ concat units

-- parts of a name of which the first is a start ("Names and Keywords", IdentifierName)
pub record IsWord (s : List ℕ) : Type 0 where
  pub starts : begins_name s ≡ true
  pub goes_on : AreParts word_unit s

-- a template, or what goes on behind a `${` of one, begins with a backtick or with `}`
unfoldable pub template_start : Bool → ℕ
template_start true = 96
template_start false = 125

-- and ends with `${`, or with a backtick
unfoldable pub template_stop : Bool → List ℕ
template_stop true = 36 ∷ 123 ∷ []
template_stop false = 96 ∷ []

-- by whether it begins a template, and whether a `${` ends it ("Template Literal Lexical Components")
unfoldable pub template_kind : Bool → Bool → TokenKind
template_kind true true = TemplateHead
template_kind true false = TemplateWhole
template_kind false true = TemplateMiddle
template_kind false false = TemplateTail

-- a number, or a BigInt ("Numeric Literals")
unfoldable pub number_kind : Bool → TokenKind
number_kind true = BigInt
number_kind false = Number

-- a body that begins with neither `/` nor `*`, its `/`, and flags, without escapes ("Regular Expression Literals")
pub record IsRegExp (s : List ℕ) : Type 0 where
  pub body : List ℕ
  pub flags : List ℕ
  pub closes : IsBody body
  pub opens : begins_comment s ≡ false
  pub goes_on : AreParts part_unit flags
  pub whole : s ≡ 47 ∷ (body ++ flags)

-- the text spells a token of this kind there
pub data Spells (goal : Goal) (k : TokenKind) (s : List ℕ) : Type 0 where
  word : IsWord s → k ≡ kind_at goal.member s → Spells goal k s
  str : IsString s → k ≡ Str → Spells goal k s
  sign : sign_kind s ≡ Some k → Spells goal k s
  private_name : (name : List ℕ) → IsWord name → s ≡ 35 ∷ name → k ≡ PrivateName → Spells goal k s
  template : (opens substitutes : Bool) (body : List ℕ) → IsTemplateText (template_stop substitutes) body
      → s ≡ template_start opens ∷ body → k ≡ template_kind opens substitutes → Spells goal k s
  number : (big : Bool) → IsNumber big s → k ≡ number_kind big → Spells goal k s
  regexp : IsRegExp s → k ≡ RegExp → Spells goal k s
  -- up to the line's end ("Hashbang Comments")
  shebang : (text : List ℕ) → has_line_end text ≡ false → goal.front ≡ true → s ≡ 35 ∷ 33 ∷ text → k ≡ Shebang
      → Spells goal k s
