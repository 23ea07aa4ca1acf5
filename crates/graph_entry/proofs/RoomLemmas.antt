-- No refusal of the URL parser's definition is that room ran out: the standard's own reasons are all that it gives.
use Rattle.std.proofs.Common.{inl, inr, subst, Bool, true, false, List, ℕ}
use Rattle.std.specs.Prelude.{Option, Some, None, Ok, Err, IfErr, if◌then◌else◌}
use Rattle.std.specs.Result.{result_map_both}
use Rattle.url.specs.declared.error.ParseError.{ParseError}
use Rattle.url.specs.declared.error.ParseError.TheVariants.{EmptyHost, IdnaError, InvalidPort, InvalidIpv4Address, InvalidIpv6Address, InvalidDomainCharacter, RelativeUrlWithoutBase, RelativeUrlWithCannotBeABaseBase, SetHostOnCannotBeABaseUrl, CannotSet, OutOfMemory, Overflow}
use Rattle.url.specs.declared.scheme.SchemeType.{SchemeType}
use Rattle.url.specs.declared.scheme.SchemeType.TheVariants.{File, SpecialNotFile, NotSpecial}
use Rattle.url.specs.Host.{ipv6_host, parse_bracketed, ipv4_host, host_of_ascii, parse_special_host, parse_opaque_host, parse_file_host, parse_host}
use Rattle.url.specs.Parts.{Parts}
use Rattle.url.specs.Parser.{Parsed, and_then, IsOutOfRoom, parse_port, parse_authority, after_double_slash, parse_non_special, parse_relative, after_file_double_slash, parse_file, parse_not_file, parse_body, parse_parts, parse_without_scheme, parse_by_scheme, parse_url}
use Rattle.file_url.specs.declared.errors.SpecifierError.TheVariants as specifier
use Rattle.file_url.specs.Imports as imports
use Rattle.file_url.specs.Imports.{refusal, resolved_as, relative_import, import_read, import_of}
use Rattle.graph_entry.specs.declared.resolution.ResolutionError.TheVariants.{InvalidDowngrade, InvalidLocalImport}
use Rattle.specifier_resolver.specs.Resolver.{as_fault, default_resolving}
use Rattle.graph_entry.specs.Resolution.{Resolved, KeepsReason, kept_of, kept_resolving, target_by, resolve_by, resolve, is_downgrade, is_local_import, allowed, allowed_from}

-- this refusal is not that room ran out
abbrev pub IsReason : ParseError → Type 0
IsReason OutOfMemory = ⊥
IsReason Overflow = ⊥
IsReason _ = Unit {0}

-- the refusal, if it is one, is not that room ran out
pub record IsTold {T : Type 0} (read : Parsed T) : Type 0 where
  pub told : IfErr read IsReason

-- ---- by the forms of a definition

told_if : {T : Type 0} (b : Bool) (x y : Parsed T) → IsTold x → IsTold y → IsTold (if b then x else y)
told_if true x y one two = one
told_if false x y one two = two

told_ok : {T : Type 0} (x : T) → IsTold (Ok x)
told_ok x = record { told = tt }

told_err : {T : Type 0} (e : ParseError) → IsReason e → IsTold {T = T} (Err e)
told_err e reason = record { told = reason }

told_then : {T U : Type 0} (x : Parsed T) (f : T → Parsed U) → IsTold x → ((t : T) → IsTold (f t))
    → IsTold (and_then x f)
told_then (Ok x) f one two = two x
told_then (Err e) f one two = told_err e one.told

ruleset told = (told_if, told_then, told_ok, told_err)

-- ---- hosts

told_ipv6 : (o : Option (List ℕ)) → IsTold (ipv6_host o)
told_ipv6 None = (record { told = tt })
told_ipv6 (Some x) = (record { told = tt })

told_ipv4 : (o : Option ℕ) → IsTold (ipv4_host o)
told_ipv4 None = (record { told = tt })
told_ipv4 (Some x) = (record { told = tt })

told_bracketed : (bytes : List ℕ) → IsTold (parse_bracketed bytes)
unfolding parse_bracketed
told_bracketed bytes = search (told, told_ipv6)

told_ascii : (o : Option (List ℕ)) → IsTold (host_of_ascii o)
told_ascii None = (record { told = tt })
told_ascii (Some domain) = search (told, told_ipv4)

told_special : (bytes : List ℕ) → IsTold (parse_special_host bytes)
unfolding parse_special_host
told_special bytes = search (told, told_bracketed, told_ascii)

told_opaque : (bytes : List ℕ) → IsTold (parse_opaque_host bytes)
unfolding parse_opaque_host
told_opaque bytes = search (told, told_bracketed)

told_map : {T : Type 0} (f : T → T) (x : Parsed T) → IsTold x → IsTold (result_map_both f (λ e. e) x)
told_map f (Ok x) told = told_ok (f x)
told_map f (Err e) told = told_err e told.told

told_file_host : (bytes : List ℕ) → IsTold (parse_file_host bytes)
unfolding parse_file_host
told_file_host bytes = search (told, told_map, told_special)

told_host : (kind : SchemeType) (bytes : List ℕ) → IsTold (parse_host kind bytes)
told_host File bytes = told_file_host bytes
told_host SpecialNotFile bytes = told_special bytes
told_host NotSpecial bytes = told_opaque bytes

-- ---- the parts of a URL

told_port : (scheme digits : List ℕ) → IsTold (parse_port scheme digits)
unfolding parse_port
told_port scheme digits = search told

told_authority : (scheme bytes : List ℕ) → IsTold (parse_authority scheme bytes)
unfolding parse_authority
told_authority scheme bytes = search (told, told_host, told_port)

told_double_slash : (scheme bytes : List ℕ) → IsTold (after_double_slash scheme bytes)
unfolding after_double_slash
told_double_slash scheme bytes = search (told, told_authority)

told_non_special : (scheme body : List ℕ) → IsTold (parse_non_special scheme body)
unfolding parse_non_special
told_non_special scheme body = search (told, told_double_slash)

told_relative : (base : Parts) (body : List ℕ) → IsTold (parse_relative base body)
unfolding parse_relative
told_relative base body = search (told, told_double_slash)

told_file_double_slash : (bytes : List ℕ) → IsTold (after_file_double_slash bytes)
unfolding after_file_double_slash
told_file_double_slash bytes = search (told, told_file_host)

told_file : (base : Option Parts) (body : List ℕ) → IsTold (parse_file base body)
unfolding parse_file
told_file base body = search (told, told_file_double_slash)

told_not_file : (scheme : List ℕ) (base : Option Parts) (body : List ℕ) → IsTold (parse_not_file scheme base body)
told_not_file scheme (Some base) body = told_relative base body
told_not_file scheme None body = search (told, told_double_slash, told_non_special)

told_body : (scheme : List ℕ) (base : Option Parts) (body : List ℕ) → IsTold (parse_body scheme base body)
unfolding parse_body
told_body scheme base body = search (told, told_file, told_not_file)

told_parts : (scheme : List ℕ) (base : Option Parts) (body : List ℕ) (query fragment : Option (List ℕ))
    → IsTold (parse_parts scheme base body query fragment)
unfolding parse_parts
told_parts scheme None body query fragment = search (told, told_body)
told_parts scheme (Some base) body query fragment = search (told, told_body)

told_without_scheme : (base : Option Parts) (body : List ℕ) (query fragment : Option (List ℕ))
    → IsTold (parse_without_scheme base body query fragment)
told_without_scheme None body query fragment = (record { told = tt })
told_without_scheme (Some base) body query fragment = search (told, told_parts)

told_by_scheme : (split : Option (List ℕ × List ℕ)) (base : Option Parts) (body : List ℕ)
    (query fragment : Option (List ℕ)) → IsTold (parse_by_scheme split base body query fragment)
told_by_scheme None base body query fragment = told_without_scheme base body query fragment
told_by_scheme (Some split) base body query fragment = told_parts _ _ _ _ _

-- reading a URL
pub parse_url-told : (base : Option Parts) (input : List ℕ) → IsTold (parse_url base input)
unfolding parse_url
parse_url-told base input = told_by_scheme _ base _ _ _

-- ---- resolution

-- told is not out of room
not_room : (e : ParseError) → IsReason e → ¬ IsOutOfRoom e
not_room e reason (inl is) = subst IsReason is reason
not_room e reason (inr is) = subst IsReason is reason

kept_refusal : (e : ParseError) → IsReason e → KeepsReason (kept_of (Err (refusal e)))
kept_refusal OutOfMemory reason = absurd reason
kept_refusal Overflow reason = absurd reason
kept_refusal _ reason = not_room _ reason

resolved_as-kept : (read : Parsed Parts) → IsTold read → KeepsReason (kept_of (resolved_as read))
resolved_as-kept (Ok url) told = tt
resolved_as-kept (Err e) told = kept_refusal e told.told

kept_if : (b : Bool) (x y : imports.Resolved) → KeepsReason (kept_of x) → KeepsReason (kept_of y)
    → KeepsReason (kept_of (if b then x else y))
kept_if true x y one two = one
kept_if false x y one two = two

relative-kept : (referrer : Parsed Parts) (text : List ℕ) → IsTold referrer
    → KeepsReason (kept_of (relative_import referrer text))
relative-kept referrer text told =
    let joined = and_then referrer (λ base. parse_url (Some base) text) in
    kept_if _ (resolved_as joined) (Err (specifier.ImportPrefixMissing text))
    (resolved_as-kept joined
    (told_then referrer (λ base. parse_url (Some base) text) told (λ base. parse_url-told (Some base) text))) tt

read-kept : (read referrer : Parsed Parts) (text : List ℕ) → IsTold read → IsTold referrer
    → KeepsReason (kept_of (import_read read referrer text))
read-kept (Ok url) referrer text told also = tt
read-kept (Err RelativeUrlWithoutBase) referrer text told also = relative-kept referrer text also
read-kept (Err EmptyHost) referrer text told also = kept_refusal EmptyHost told.told
read-kept (Err IdnaError) referrer text told also = kept_refusal IdnaError told.told
read-kept (Err InvalidPort) referrer text told also = kept_refusal InvalidPort told.told
read-kept (Err InvalidIpv4Address) referrer text told also = kept_refusal InvalidIpv4Address told.told
read-kept (Err InvalidIpv6Address) referrer text told also = kept_refusal InvalidIpv6Address told.told
read-kept (Err InvalidDomainCharacter) referrer text told also = kept_refusal InvalidDomainCharacter told.told
read-kept (Err RelativeUrlWithCannotBeABaseBase) referrer text told also =
    kept_refusal RelativeUrlWithCannotBeABaseBase told.told
read-kept (Err SetHostOnCannotBeABaseUrl) referrer text told also = kept_refusal SetHostOnCannotBeABaseUrl told.told
read-kept (Err CannotSet) referrer text told also = kept_refusal CannotSet told.told
read-kept (Err OutOfMemory) referrer text told also = kept_refusal OutOfMemory told.told
read-kept (Err Overflow) referrer text told also = kept_refusal Overflow told.told

-- a target that isn't allowed has a reason of its own
allowed-kept : (referrer target : Parts) → KeepsReason (allowed referrer target)
allowed-kept referrer target = by (is_downgrade referrer target) (is_local_import referrer target)
  where
    by : (b c : Bool) → KeepsReason
        (if b then Err InvalidDowngrade else if c then Err InvalidLocalImport else Ok target)
    by true c = tt
    by false true = tt
    by false false = tt

from-kept : (base : Parsed Parts) (r : Resolved) → KeepsReason r → KeepsReason (allowed_from base r)
from-kept (Ok referrer) (Ok target) kept = allowed-kept referrer target
from-kept (Ok referrer) (Err e) kept = kept
from-kept (Err e) r kept = kept

-- what an import leads to, as an edge keeps it, is the same however a resolver's fault stands for it
as_fault-kept : (r : imports.Resolved) → KeepsReason (kept_of r) → KeepsReason (kept_resolving (as_fault r))
as_fault-kept (Ok url) kept = tt
as_fault-kept (Err e) kept = kept

target-kept : (base : Parsed Parts) (text : List ℕ) → IsTold base → KeepsReason (target_by default_resolving base text)
unfolding import_of
target-kept (Ok referrer) text told = as_fault-kept _ (read-kept _ _ text (parse_url-told None text) told)
target-kept (Err e) text told = read-kept _ _ text (parse_url-told None text) told

-- that room ran out is never an edge's reason
pub resolve-kept : (referrer text : List ℕ) → KeepsReason (resolve referrer text)
unfolding resolve_by
resolve-kept referrer text =
    from-kept (parse_url None referrer) _ (target-kept (parse_url None referrer) text (parse_url-told None referrer))
