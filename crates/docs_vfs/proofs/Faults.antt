-- What the errors of the URL parser and of the decoder say.
use Rattle.std.proofs.Common.{◌≡◌, ℕ, List, Result, Err, sym, refl, ap, ◌∙◌, inl, inr, ⊎_elim, rules}
use Rattle.std.specs.Prelude.{◌⊎◌, IsUtf8}
use Rattle.std.specs.Str.{is_utf8}
use Rattle.std.proofs.lemmas.Bool.{cases_Bool}
use Rattle.std.proofs.lemmas.Str.{IsUtf8-from_is_utf8}
use Rattle.percent_encoding.specs.declared.DecodeError.{DecodeError}
use Rattle.percent_encoding.specs.declared.DecodeError.TheVariants as decode
use Rattle.url.specs.Parser.{IsOutOfRoom}
use Rattle.url.specs.Parts.{Parts}
use Rattle.url.specs.declared.error.ParseError.{ParseError}
use Rattle.url.specs.declared.error.ParseError.TheVariants.{EmptyHost, IdnaError, InvalidPort, InvalidIpv4Address, InvalidIpv6Address, InvalidDomainCharacter, RelativeUrlWithoutBase}
use Rattle.url.specs.declared.error.ParseError.TheVariants.{RelativeUrlWithCannotBeABaseBase, SetHostOnCannotBeABaseUrl, Overflow, CannotSet, OutOfMemory}
use Rattle.docs_vfs.specs.declared.file_url.UrlFault.{UrlFault}
use Rattle.docs_vfs.specs.declared.file_url.UrlFault.TheVariants.{NotFile, NoMemory}
use Rattle.docs_vfs.specs.FileUrls.{path_of_parsed, fault_by, decode_fault_by, LacksText}

fault_is : (e : ParseError) → (fault_by e ≡ NoMemory) ⊎ (fault_by e ≡ NotFile)
fault_is OutOfMemory = inl refl
fault_is Overflow = inl refl
fault_is EmptyHost = inr refl
fault_is IdnaError = inr refl
fault_is InvalidPort = inr refl
fault_is InvalidIpv4Address = inr refl
fault_is InvalidIpv6Address = inr refl
fault_is InvalidDomainCharacter = inr refl
fault_is RelativeUrlWithoutBase = inr refl
fault_is RelativeUrlWithCannotBeABaseBase = inr refl
fault_is SetHostOnCannotBeABaseUrl = inr refl
fault_is CannotSet = inr refl

pub fault_answers : (e : ParseError) (parsed : Result Parts ParseError) (fault : UrlFault) → fault ≡ fault_by e → (parsed ≡ Err e) ⊎ IsOutOfRoom e → (fault ≡ NoMemory) ⊎ (path_of_parsed parsed ≡ Err fault)
fault_answers e parsed fault is (inr room) = inl (is ∙ ⊎_elim (λ same. ap fault_by same) (λ same. ap fault_by same) room)
fault_answers e parsed fault is (inl expected) =
    ⊎_elim
    (λ memory. inl (is ∙ memory))
    (λ no_url. inr (ap path_of_parsed expected ∙ ap Err (sym (is ∙ no_url))))
    (fault_is e)

pub decode_lacks : (e : DecodeError) (fault : UrlFault) (text : List ℕ) → fault ≡ decode_fault_by e → (IsUtf8 text → e ≡ decode.OutOfMemory) → LacksText fault (is_utf8 text)
decode_lacks (decode.Utf8 x) fault text is utf8 =
    inr (
      is,
      ⊎_elim
          (λ yes. let memory = utf8 (IsUtf8-from_is_utf8 text yes) in search rules)
          (λ no. no)
          (cases_Bool (is_utf8 text)),
    )
decode_lacks decode.OutOfMemory fault text is utf8 = inl is
