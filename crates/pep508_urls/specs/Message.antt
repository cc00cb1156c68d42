-- What is said of a rejected URL.
use Rattle.std.specs.Prelude.{ℕ, List, ◌∷◌, ◌++◌, codes, string_bytes}
use Rattle.url.specs.declared.error.ParseError.{ParseError}
use Rattle.url.specs.declared.error.ParseError.TheVariants.{EmptyHost, IdnaError, InvalidPort, InvalidIpv4Address, InvalidIpv6Address, InvalidDomainCharacter, RelativeUrlWithoutBase, RelativeUrlWithCannotBeABaseBase, SetHostOnCannotBeABaseUrl, Overflow, CannotSet, OutOfMemory}
use Rattle.pep508_urls.specs.declared.error.VerbatimUrlError.{VerbatimUrlError}
use Rattle.pep508_urls.specs.declared.error.VerbatimUrlError.TheVariants.{Url, WorkingDirectory, UrlConversion, Normalization}

-- what an error of the crate `url` says: 226, 128 and 153 are an apostrophe
abbrev pub parse_fault_text : ParseError → List ℕ
parse_fault_text EmptyHost = codes "empty host"
parse_fault_text IdnaError = codes "invalid international domain name"
parse_fault_text InvalidPort = codes "invalid port number"
parse_fault_text InvalidIpv4Address = codes "invalid IPv4 address"
parse_fault_text InvalidIpv6Address = codes "invalid IPv6 address"
parse_fault_text InvalidDomainCharacter = codes "invalid domain character"
parse_fault_text RelativeUrlWithoutBase = codes "relative URL without a base"
parse_fault_text RelativeUrlWithCannotBeABaseBase =
    codes "relative URL with a cannot-be-a-base base"
parse_fault_text SetHostOnCannotBeABaseUrl =
    codes "a cannot-be-a-base URL doesn" ++ 226 ∷ 128 ∷ 153 ∷ codes "t have a host to set"
parse_fault_text Overflow = codes "URLs more than 4 GB are not supported"
parse_fault_text CannotSet = codes "this URL cannot take that value"
parse_fault_text OutOfMemory = codes "out of memory"

-- what an error says: of a path also which one
abbrev pub fault_text : VerbatimUrlError → List ℕ
fault_text (Url fault) = parse_fault_text fault
fault_text (WorkingDirectory path) =
    codes "relative path without a working directory: " ++ string_bytes path
fault_text (UrlConversion path) =
    codes "path could not be converted to a URL: " ++ string_bytes path
fault_text (Normalization path) = codes "path could not be normalized: " ++ string_bytes path
