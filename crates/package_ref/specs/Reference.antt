-- References to packages (this project's profile of Deno's `npm:` and `jsr:` specifiers), over the bytes of a URL's text:
--
--   reference   = ( 'npm:' | 'jsr:' ) body [ ( '?' | '#' ) anything ]      the body holds no '?' and no '#'
--   body        = [ '/' ] name [ '@' requirement ] [ '/' sub path ]
--   name        = part | '@' part '/' part                                 for jsr only the second
--   part        = one or more characters other than '/' and '@'
--   requirement = one or more characters other than '/'
--   sub path    = anything; an empty one is none
use Rattle.std.specs.Prelude.{◌≡◌, ℕ, ◌<◌, ◌==◌, Bool, not, ◌&&◌, ◌||◌, ◌⊎◌, List, [], ◌∷◌, ◌++◌, codes, length, Option, Some, None, Result, MatchResult}
use Rattle.std.specs.List.{AllPass, before_first}
use Rattle.package_ref.specs.declared.reference.PackageKind.{PackageKind}
use Rattle.package_ref.specs.declared.reference.PackageKind.TheVariants.{Npm, Jsr}
use Rattle.package_ref.specs.declared.reference.PackageRef.{PackageRef}
use Rattle.package_ref.specs.declared.error.PackageError.{PackageError}
use Rattle.package_ref.specs.declared.error.PackageError.TheVariants.{OutOfMemory}

-- one or more characters that pass the test
pub record IsRun (test : ℕ → Bool) (text : List ℕ) : Type 0 where
  pub some : 0 < length text
  pub all : AllPass test text

-- other than `/`
abbrev pub is_no_slash : ℕ → Bool
is_no_slash b = not (b == 47)

-- other than `/` and `@`
abbrev pub is_of_part : ℕ → Bool
is_of_part b = not (b == 47) && not (b == 64)

-- nothing, or `/`
abbrev pub IsSlash : List ℕ → Type 0
IsSlash text = (text ≡ []) ⊎ (text ≡ 47 ∷ [])

-- a name of this kind
pub data IsName (kind : PackageKind) (name : List ℕ) : Type 0 where
  -- a part
  plain : kind ≡ Npm → IsRun is_of_part name → IsName kind name
  -- `@`, a part, `/`, a part
  scoped : (scope part : List ℕ) → IsRun is_of_part scope → IsRun is_of_part part
      → name ≡ 64 ∷ scope ++ 47 ∷ part → IsName kind name

-- nothing, or `@` and a requirement
abbrev pub IsRequirement : List ℕ → Option (List ℕ) → Type 0
IsRequirement text None = text ≡ []
IsRequirement text (Some requirement) = (text ≡ 64 ∷ requirement) × IsRun is_no_slash requirement

-- nothing, or `/` and a sub path, if it isn't empty
abbrev pub IsSubPath : List ℕ → Option (List ℕ) → Type 0
IsSubPath text None = (text ≡ []) ⊎ (text ≡ 47 ∷ [])
IsSubPath text (Some sub_path) = (text ≡ 47 ∷ sub_path) × (0 < length sub_path)

-- the text is a body of this package
pub record IsBody (text : List ℕ) (r : PackageRef) : Type 0 where
  pub slash : List ℕ
  pub requirement : List ℕ
  pub sub_path : List ℕ
  pub whole : text ≡ slash ++ (r.name ++ (requirement ++ sub_path))
  pub slash_is : IsSlash slash
  pub name_is : IsName r.kind r.name
  pub requirement_is : IsRequirement requirement r.requirement
  pub sub_path_is : IsSubPath sub_path r.sub_path

-- the scheme of a kind, with its `:`
abbrev pub scheme_of : PackageKind → List ℕ
scheme_of Npm = codes "npm:"
scheme_of Jsr = codes "jsr:"

-- `?` or `#`
abbrev pub ends_body : ℕ → Bool
ends_body b = (b == 63) || (b == 35)

-- the text is a reference to this package
pub record IsReference (text : List ℕ) (r : PackageRef) : Type 0 where
  pub rest : List ℕ
  pub whole : text ≡ scheme_of r.kind ++ rest
  pub body : IsBody (before_first ends_body rest) r

-- a function answered this package, unless memory ran out
abbrev pub Gives : Result PackageRef PackageError → PackageRef → Type 0
Gives result r = MatchResult result (λ p. p ≡ r) (λ e. e ≡ OutOfMemory)
