-- Which parts of two URLs are the same.
use Rattle.std.specs.Prelude.{◌≡◌}
use Rattle.url.specs.Parts.{Parts, has_authority, nonempty_host}

-- what stands before the host
pub record HaveSameFronts (a b : Parts) : Type 0 where
  pub scheme : a.scheme ≡ b.scheme
  pub username : a.username ≡ b.username
  pub password : a.password ≡ b.password

-- the host, which is empty or missing where there is none to tell, and the port
pub record HaveSameHosts (a b : Parts) : Type 0 where
  pub authority : has_authority a ≡ has_authority b
  pub host : nonempty_host a ≡ nonempty_host b
  pub port : a.port ≡ b.port

-- what stands behind
pub record HaveSameEnds (a b : Parts) : Type 0 where
  pub path : a.path ≡ b.path
  pub query : a.query ≡ b.query
  pub fragment : a.fragment ≡ b.fragment
