-- The summary of a session over generated messages.
use Rattle.std.specs.Prelude.{ℕ, ◌*◌, List, ◌++◌, codes, decimal}
use Rattle.std.specs.List.{concat}
use Rattle.hex.specs.Hex.{encode_lower}
use Rattle.sha1.specs.Sha1.{sha1}
use Rattle.message_generator.specs.Drafts.{edit_count}

-- a hash in hexadecimal digits
abbrev pub hash_of : List ℕ → List ℕ
hash_of bytes = encode_lower (sha1 bytes)

-- how many documents, edits and requests there were, and how many responses
abbrev pub counts_text : ℕ → ℕ → List ℕ
counts_text count responses =
    codes "documents " ++ (decimal count ++ (codes "\nedits " ++ (decimal (edit_count * count)
    ++ (codes "\nrequests " ++ (decimal count ++ (codes "\nresponses " ++ (decimal responses ++ codes "\n")))))))

-- the hash of the texts in the end, and that of all that was written
abbrev pub hashes_text : List ℕ → List ℕ → List ℕ
hashes_text texts output = codes "sha1 " ++ (texts ++ (codes "\noutput " ++ (output ++ codes "\n")))

abbrev pub summary_of : ℕ → ℕ → List ℕ → List (List ℕ) → List ℕ
summary_of count responses texts written =
    counts_text count responses ++ hashes_text (hash_of texts) (hash_of (concat written))
