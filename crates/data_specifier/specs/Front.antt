-- The front of a `data:` URL, which stands before its first comma: the media type and whether the body is base64.
use Rattle.std.specs.Prelude.{ℕ, nat_eq, ◌-◌, ◌==◌, ◌&&◌, nat_lt, Bool, List, codes, length, take, drop, if◌then◌else◌}
use Rattle.std.specs.List.{ends_with, before_first, after_first}
use Rattle.std.specs.Str.{str_to_ascii_lowercase, str_eq_ignore_ascii_case}
use Rattle.media_type.specs.mime_essence.Blanks.{trim_blanks_end}
use Rattle.media_type.specs.mime_essence.Essence.{essence_of}

-- the front ends with `;`, any blanks and `base64` in any case
unfoldable pub is_base64 : List ℕ → Bool
is_base64 front =
    let at = length front - 6 in
    str_eq_ignore_ascii_case (drop at front) (codes "base64") && ends_with nat_eq (trim_blanks_end (take at front)) (codes ";")

-- there is text
abbrev pub is_there : List ℕ → Bool
is_there text = nat_lt 0 (length text)

-- a type and a subtype stand round the first `/` (MIME Sniffing Standard, "parse a MIME type")
abbrev pub has_subtype : List ℕ → Bool
has_subtype essence = is_there (before_first (λ b. b == 47) essence) && is_there (after_first (λ b. b == 47) essence)

-- the media type, in lower case
unfoldable pub mime_of : List ℕ → List ℕ
mime_of front =
    if has_subtype (essence_of front) then str_to_ascii_lowercase (essence_of front) else codes "text/plain"
