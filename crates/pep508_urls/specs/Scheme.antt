-- Schemes of URLs, and what follows them. Texts are lists of bytes.
use Rattle.std.specs.Prelude.{◌≡◌, ℕ, true, List, ◌∷◌, ◌++◌, All, drop, length, slice_index, codes, if◌then◌else◌, ◌==◌}
use Rattle.std.specs.List.{starts_with}
use Rattle.std.specs.Char.{is_ascii_alphabetic}
use Rattle.url.specs.Input.{trim_c0_control_and_space}
use Rattle.url.specs.Scheme.{is_scheme_byte}
use Rattle.pep508_urls.specs.declared.scheme.Scheme.{Scheme}
use Rattle.pep508_urls.specs.declared.scheme.Scheme.TheVariants.{File, GitGit, GitHttp, GitFile, GitSsh, GitHttps, BzrHttp, BzrHttps, BzrSsh, BzrSftp, BzrFtp, BzrLp, BzrFile, HgFile, HgHttp, HgHttps, HgSsh, HgStaticHttp, SvnSsh, SvnHttp, SvnHttps, SvnSvn, SvnFile, Http, Https}

-- how a scheme is written
abbrev pub scheme_text : Scheme → List ℕ
scheme_text File = codes "file"
scheme_text GitGit = codes "git+git"
scheme_text GitHttp = codes "git+http"
scheme_text GitFile = codes "git+file"
scheme_text GitSsh = codes "git+ssh"
scheme_text GitHttps = codes "git+https"
scheme_text BzrHttp = codes "bzr+http"
scheme_text BzrHttps = codes "bzr+https"
scheme_text BzrSsh = codes "bzr+ssh"
scheme_text BzrSftp = codes "bzr+sftp"
scheme_text BzrFtp = codes "bzr+ftp"
scheme_text BzrLp = codes "bzr+lp"
scheme_text BzrFile = codes "bzr+file"
scheme_text HgFile = codes "hg+file"
scheme_text HgHttp = codes "hg+http"
scheme_text HgHttps = codes "hg+https"
scheme_text HgSsh = codes "hg+ssh"
scheme_text HgStaticHttp = codes "hg+static-http"
scheme_text SvnSsh = codes "svn+ssh"
scheme_text SvnHttp = codes "svn+http"
scheme_text SvnHttps = codes "svn+https"
scheme_text SvnSvn = codes "svn+svn"
scheme_text SvnFile = codes "svn+file"
scheme_text Http = codes "http"
scheme_text Https = codes "https"

-- an ASCII letter, and then letters, digits, `+`, `-` and `.`
pub record IsScheme (bytes : List ℕ) : Type 0 where
  pub first : is_ascii_alphabetic (slice_index bytes 0) ≡ true
  pub whole : All (λ b. is_scheme_byte b ≡ true) bytes

-- the text, without C0 controls and spaces at its ends, is a scheme, `:` and the rest
pub record SplitsScheme (text scheme rest : List ℕ) : Type 0 where
  pub is_scheme : IsScheme scheme
  pub joined : trim_c0_control_and_space text ≡ scheme ++ 58 ∷ rest

-- what follows the host at the front of a `file` URL: without `//localhost` before a `/`, else
-- without `//`
abbrev pub without_host : List ℕ → List ℕ
without_host path =
    if starts_with (λ a b. a == b) path (codes "//localhost/")
    then drop (length (codes "//localhost")) path
    else (if starts_with (λ a b. a == b) path (codes "//") then drop 2 path else path)
