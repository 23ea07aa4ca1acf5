-- What the functions inside the crate promise each other: the tests for a URL that reading could have written.
use Rattle.std.specs.Prelude.{ℕ, Bool, true, false, not, ◌&&◌, ◌||◌, ◌==◌, List, slice_index, codes, bytes_eq, if◌then◌else◌}
use Rattle.url.specs.declared.host.Host.{Host}
use Rattle.url.specs.declared.host.Host.TheVariants.{Domain, Ipv4, Ipv6}
use Rattle.url.specs.Host.{host_text}
use Rattle.url.specs.Parts.{Parts, kind_of, host_or_empty, serialize}
use Rattle.url.specs.Path.{is_windows_drive_letter, ends_in_space}
use Rattle.url.specs.Scheme.{is_special, is_file}
use Rattle.url.specs.declared.scheme.SchemeType.TheVariants.{File}
use Rattle.url.specs.Canonical.{first_segment}
use Rattle.url.specs.Ascii.{vertical_bar}

-- the host is `localhost`
abbrev pub is_on_localhost : Host (List ℕ) → Bool
is_on_localhost host = bytes_eq (host_text host) (codes "localhost")

-- a drive letter at the front is written with `|`
abbrev pub begins_with_bar_drive : List ℕ → Bool
begins_with_bar_drive path =
    is_windows_drive_letter (first_segment File path) && slice_index (first_segment File path) 1 == vertical_bar

-- a file URL that reading could have written
abbrev pub is_canonical_file : Parts → Bool
is_canonical_file url = not (is_on_localhost (host_or_empty url)) && not (begins_with_bar_drive url.path)

-- the host is an IPv4 address
abbrev pub is_ipv4 : Host (List ℕ) → Bool
is_ipv4 (Domain domain) = false
is_ipv4 (Ipv4 address) = true
is_ipv4 (Ipv6 address) = false

-- a URL that isn't special and that reading could have written
abbrev pub is_canonical_other : Parts → Bool
is_canonical_other url =
    not (is_ipv4 (host_or_empty url)) && not (ends_in_space (serialize url)) && not (ends_in_space url.path)

-- a URL that reading could have written
abbrev pub is_canonical : Parts → Bool
is_canonical url =
    if is_file (kind_of url) then is_canonical_file url else is_special (kind_of url) || is_canonical_other url
