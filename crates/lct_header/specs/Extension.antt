-- A header extension (RFC 5651, section 5.2).
use Rattle.std.specs.Prelude.{◌≡◌, ℕ, ◌*◌, ◌<◌, ◌≤◌, ◌⊎◌, List, ◌∷◌, length}

-- An extension: its type (HET) and its content, which is what follows the length (HEL), or the three
-- bytes after the type where an extension is one word.
pub record Extension : Type 0 where
  pub het : ℕ
  pub content : List ℕ

-- A type below 128, the length in words of four bytes, which counts the whole, and the content.
pub record IsMeasured (bytes : List ℕ) (e : Extension) : Type 0 where
  pub hel : ℕ
  pub low : e.het < 128
  pub some : 0 < hel
  pub spelling : bytes ≡ e.het ∷ hel ∷ e.content
  pub whole : length bytes ≡ 4 * hel

-- A type from 128 on and three bytes.
pub record IsOneWord (bytes : List ℕ) (e : Extension) : Type 0 where
  pub high : 128 ≤ e.het
  pub spelling : bytes ≡ e.het ∷ e.content
  pub whole : length bytes ≡ 4

-- the bytes are the extension
abbrev pub IsExtension : List ℕ → Extension → Type 0
IsExtension bytes e = IsMeasured bytes e ⊎ IsOneWord bytes e
