-- Refusals of reading a specifier.
use Rattle.std.proofs.Common.{◌≡◌, ◌≢◌, ◌⊎◌, inl, inr, ⊎_elim, ◌∙◌, ap, refl, List, ℕ, true, false, None, Some, Ok, Err}
use Rattle.std.specs.Prelude.{if◌then◌else◌}
use Rattle.url.specs.declared.error.ParseError.{ParseError}
use Rattle.url.specs.declared.error.ParseError.TheVariants as url
use Rattle.url.specs.declared.error.ParseError.TheVariants.{RelativeUrlWithoutBase}
use Rattle.url.specs.Parts.{Parts}
use Rattle.url.specs.Parser.{Parsed, and_then, parse_url, IsOutOfRoom}
use Rattle.lexical_path.specs.Specifiers.{has_relative_prefix}
use Rattle.file_url.specs.declared.errors.SpecifierError.TheVariants.{ImportPrefixMissing, OutOfMemory}
use Rattle.file_url.specs.Imports.{Resolved, refusal, resolved_as, relative_import, import_read, import_of, KeepsReason}
use Rattle.file_url.proofs.RelativeLemmas.{relative_alone}

-- out of room becomes out of memory
pub refusal_of_room : (e : ParseError) → IsOutOfRoom e → refusal e ≡ OutOfMemory
refusal_of_room e (inl memory) = ap refusal memory
refusal_of_room e (inr large) = ap refusal large

-- a reason never stands for being out of memory
pub refusal_keeps : (e : ParseError) → KeepsReason (refusal e)
refusal_keeps url.OutOfMemory = tt
refusal_keeps url.Overflow = tt
refusal_keeps _ = ⊎_elim (λ memory. cc) (λ large. cc)

-- any refusal but that of a text without a scheme is answered
import_read-Err : (e : ParseError) (referrer : Parsed Parts) (text : List ℕ) → e ≢ RelativeUrlWithoutBase
    → import_read (Err e) referrer text ≡ Err (refusal e)
import_read-Err RelativeUrlWithoutBase referrer text other = absurd (other refl)
import_read-Err _ referrer text other = refl

-- the answer where the text is refused
pub import_refused : (read : Parsed Parts) (e : ParseError) (referrer : Parsed Parts) (text : List ℕ)
    → (read ≡ Err e) ⊎ IsOutOfRoom e → e ≢ RelativeUrlWithoutBase
    → (import_read read referrer text ≡ Err (refusal e)) ⊎ (refusal e ≡ OutOfMemory)
import_refused read e referrer text (inl same) other =
    inl (ap (λ r. import_read r referrer text) same ∙ import_read-Err e referrer text other)
import_refused read e referrer text (inr room) other = inr (refusal_of_room e room)

-- a text that begins with `/`, `./` or `../` is joined to its referrer
pub joined : (referrer : Parsed Parts) (text : List ℕ) → has_relative_prefix text ≡ true
    → import_of referrer text ≡ resolved_as (and_then referrer (λ base. parse_url (Some base) text))
unfolding import_of
joined referrer text begins =
    ap (λ r. import_read r referrer text) (relative_alone text begins)
    ∙ ap (λ b. if b then resolved_as (and_then referrer (λ base. parse_url (Some base) text))
    else Err (ImportPrefixMissing text)) begins

-- any other text that is no URL has no target
pub prefix_lacks : (referrer : Parsed Parts) (text : List ℕ) → has_relative_prefix text ≡ false
    → parse_url None text ≡ Err RelativeUrlWithoutBase → import_of referrer text ≡ Err (ImportPrefixMissing text)
unfolding import_of
prefix_lacks referrer text begins alone =
    ap (λ r. import_read r referrer text) alone
    ∙ ap (λ b. if b then resolved_as (and_then referrer (λ base. parse_url (Some base) text))
    else Err (ImportPrefixMissing text)) begins
