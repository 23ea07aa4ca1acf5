-- Media types by a specifier and by the headers of its content (this project's profile).
use Rattle.std.specs.Prelude.{ℕ, List, map, codes, bytes_eq, Option, Some, None, String, string_bytes, if◌then◌else◌}
use Rattle.std.specs.Map.{lookup}
use Rattle.url.specs.Parts.{Parts}
use Rattle.media_type.specs.declared.media_type.MediaType.{MediaType}
use Rattle.media_type.specs.declared.media_type.MediaType.TheVariants.{Unknown}
use Rattle.media_type.specs.Endings.{media_type_of}
use Rattle.media_type.specs.ContentTypes.{with_content_type}

-- the media type of a specifier: that of its path, but the path of a `data:` URL tells nothing
abbrev pub of_specifier : Parts → MediaType
of_specifier url = if bytes_eq url.scheme (codes "data") then Unknown else media_type_of url.path

-- headers by their names, as texts
abbrev pub texts_of : {A : Type 0} → List (String A × String A) → List (List ℕ × List ℕ)
texts_of es = map (λ e. (string_bytes e.0, string_bytes e.1)) es

-- the header `content-type`, whose name is in lower case
abbrev pub content_type_in : List (List ℕ × List ℕ) → Option (List ℕ)
content_type_in headers = lookup (bytes_eq (codes "content-type")) headers

-- the media type of content: what its header `content-type` says where it has one, over what the specifier tells
abbrev pub by_header : MediaType → Option (List ℕ) → MediaType
by_header by_path None = by_path
by_header by_path (Some header) = with_content_type by_path header

-- the headers, if they are told
abbrev pub content_type_told : Option (List (List ℕ × List ℕ)) → Option (List ℕ)
content_type_told None = None
content_type_told (Some headers) = content_type_in headers
