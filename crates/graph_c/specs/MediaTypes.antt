-- The media types by their numbers in include/joravelsu.h.
use Rattle.std.specs.Prelude.{ℕ, ◌==◌, Option, Some, None, if◌then◌else◌}
use Rattle.media_type.specs.declared.media_type.MediaType.{MediaType}
use Rattle.media_type.specs.declared.media_type.MediaType.TheVariants.{Dts, Dmts, Dcts, TypeScript, Mts, Cts, Tsx, JavaScript, Mjs, Cjs, Jsx, Json, Wasm}

-- the media type of this number
abbrev pub media_type_at : ℕ → Option MediaType
media_type_at n =
    if n == 0 then Some Dts else
    if n == 1 then Some Dmts else
    if n == 2 then Some Dcts else
    if n == 3 then Some TypeScript else
    if n == 4 then Some Mts else
    if n == 5 then Some Cts else
    if n == 6 then Some Tsx else
    if n == 7 then Some JavaScript else
    if n == 8 then Some Mjs else
    if n == 9 then Some Cjs else
    if n == 10 then Some Jsx else
    if n == 11 then Some Json else
    if n == 12 then Some Wasm else
    None
