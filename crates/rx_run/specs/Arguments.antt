-- What is said of the arguments of a process, where they are told, each as its bytes. The first is the program's name, and the words of the command line are the others.
use Rattle.std.specs.Prelude.{◌≡◌, ◌<◌, ℕ, List, length, drop, slice_get, Option, None, Some, IsSomeAnd, IsUtf8}
use Rattle.std.specs.List.{AllZip, Any}
use Rattle.std.specs.Str.{chars}
use Rattle.std.specs.declared.env.FillError.{FillError}
use Rattle.std.specs.declared.env.FillError.TheVariants.{NotPresent, TooLong}

-- why an argument was not copied to a buffer of n bytes
abbrev pub IsNotCopied : FillError → Option (List ℕ) → ℕ → Type 0
IsNotCopied NotPresent argument n = argument ≡ None
IsNotCopied TooLong argument n = IsSomeAnd argument (λ bytes. n < length bytes)

-- The bytes are UTF-8, and these are the characters that they spell.
pub record IsWord (bytes word : List ℕ) : Type 0 where
  pub utf8 : IsUtf8 bytes
  pub word_is : word ≡ chars bytes

-- the argument at an index as a word, or none exactly past the last
abbrev pub IsWordAt : List (List ℕ) → ℕ → Option (List ℕ) → Type 0
IsWordAt given index None = slice_get given index ≡ None
IsWordAt given index (Some word) = IsSomeAnd (slice_get given index) (λ bytes. IsWord bytes word)

-- these are the words: all that follow the program's name, in order
abbrev pub AreWords : List (List ℕ) → List (List ℕ) → Type 0
AreWords given words = AllZip IsWord (drop 1 given) words

-- some word is no UTF-8
abbrev pub HasNoText : List (List ℕ) → Type 0
HasNoText given = Any (λ bytes. ¬ IsUtf8 bytes) (drop 1 given)
