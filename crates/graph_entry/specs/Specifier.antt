-- Specifiers. A specifier is its text: that of a URL (URL Standard, "URL serializing").
use Rattle.std.specs.Prelude.{ℕ, Bool, not, ◌||◌, List, codes}
use Rattle.lexical_path.specs.Specifiers.{begins}
use Rattle.url.specs.Parts.{Parts, serialize}

-- the text of a URL
unfoldable pub text_of : Parts → List ℕ
text_of url = serialize url

-- a loader is asked for it: the scheme is none of `data`, `npm`, `jsr` (this project's profile)
unfoldable pub loadable : List ℕ → Bool
loadable text = not (begins text (codes "data:") || begins text (codes "npm:") || begins text (codes "jsr:"))
