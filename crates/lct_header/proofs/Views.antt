-- What is known of a header that begins bytes.
use Rattle.std.proofs.Common.{◌≡◌, ℕ, ◌+◌, ◌*◌, List, ◌∷◌, ◌++◌, length, drop, refl, sym, ap, subst, ◌∙◌, append_assoc, arith, inl, inr}
use Rattle.std.proofs.lemmas.List.{length-append, take_at, drop_at}
use Rattle.wire_bytes.specs.Bytes.{AreBytes}
use Rattle.wire_bytes.proofs.Public.{bytes_take, bytes_drop}
use Rattle.lct_header.specs.Extension.{Extension, IsExtension}
use Rattle.lct_header.specs.Extensions.{AreExtensions}
use Rattle.lct_header.specs.Header.{Header, IsHeader}
use Rattle.lct_header.specs.HeaderView.{HeaderView, IsView, BeginsWithHeader}
use Rattle.lct_header.proofs.Numbers.{fields_are_header}
use Rattle.lct_header.proofs.Layouts.{found}

-- a view of a header that begins bytes is one
pub view_is : (bytes : List ℕ) (v : HeaderView) (rest : List ℕ) → BeginsWithHeader bytes v rest → IsView v
view_is bytes v rest is =
    let tsi : v.header.tsi_bits ≡ 8 * length is.tsi = ap (λ (h : Header). h.tsi_bits) is.header in
    let toi : v.header.toi_bits ≡ 8 * length is.toi = ap (λ (h : Header). h.toi_bits) is.header in
    record {
      cci = is.word.c;
      cci_words = is.layout.spells.fits.c;
      whole = omega (arith, tsi, toi, is.length, is.layout.stated, is.layout.tsi_bytes, is.layout.toi_bytes);
      most = omega (arith, is.length, is.layout.spells.fits.words);
      extensions = is.extensions;
    }

-- the header's bytes, and what follows them
front_and_rest : (bytes : List ℕ) (v : HeaderView) (rest : List ℕ) → BeginsWithHeader bytes v rest
    → (front : List ℕ) × (bytes ≡ front ++ rest) × (length front ≡ v.length)
front_and_rest bytes v rest is =
    let laid = is.layout in
    let r3 = is.toi ++ v.area in
    let r2 = is.tsi ++ r3 in
    let r1 = laid.cci ++ r2 in
    let word : length laid.word ≡ 4 = ap length laid.spells.spelling in (
      laid.word ++ r1,
      laid.joined ∙ simp append_assoc,
      omega (
        arith,
        word,
        length-append laid.word r1,
        length-append laid.cci r2,
        length-append is.tsi r3,
        length-append is.toi v.area,
        laid.cci_bytes,
        laid.tsi_bytes,
        laid.toi_bytes,
        laid.stated,
        is.length,
      ),
    )

-- all of the header is there
pub length_is : (bytes : List ℕ) (v : HeaderView) (rest : List ℕ) → BeginsWithHeader bytes v rest → length bytes ≡ v.length + length rest
length_is bytes v rest is =
    let cut = front_and_rest bytes v rest is in
    ap length cut.1 ∙ length-append cut.0 rest ∙ ap (λ (n : ℕ). n + length rest) cut.2

-- the rest is what follows its length
pub rest_is : (bytes : List ℕ) (v : HeaderView) (rest : List ℕ) → BeginsWithHeader bytes v rest → rest ≡ drop v.length bytes
rest_is bytes v rest is =
    let cut = front_and_rest bytes v rest is in
    sym (ap (drop v.length) cut.1 ∙ drop_at cut.0 rest v.length cut.2)

-- ---- of bytes

-- the fields are those of a header
pub header_is : (bytes : List ℕ) (v : HeaderView) (rest : List ℕ) → AreBytes bytes → BeginsWithHeader bytes v rest → IsHeader v.header
header_is bytes v rest are is =
    let at = found bytes is.word is.tsi is.toi v.area rest is.layout in
    let tsi : AreBytes is.tsi = subst AreBytes at.tsi_is (bytes_take _ _ (bytes_drop _ bytes are)) in
    let toi : AreBytes is.toi = subst AreBytes at.toi_is (bytes_take _ _ (bytes_drop _ bytes are)) in
    subst IsHeader (sym is.header)
    (fields_are_header is.word is.word.close_session is.word.close_object is.tsi is.toi is.word.codepoint
    is.layout.spells.fits is.layout.tsi_bytes is.layout.toi_bytes tsi toi is.layout.spells.fits.codepoint)

-- the area and the rest are of bytes
pub area_bytes : (bytes : List ℕ) (v : HeaderView) (rest : List ℕ) → AreBytes bytes → BeginsWithHeader bytes v rest → AreBytes v.area
area_bytes bytes v rest are is =
    let at = found bytes is.word is.tsi is.toi v.area rest is.layout in
    subst AreBytes at.area_is (bytes_take _ _ (bytes_drop _ bytes are))

pub rest_bytes : (bytes : List ℕ) (v : HeaderView) (rest : List ℕ) → AreBytes bytes → BeginsWithHeader bytes v rest → AreBytes rest
rest_bytes bytes v rest are is = subst AreBytes (sym (rest_is bytes v rest is)) (bytes_drop v.length bytes are)

-- the content of an extension of bytes is of bytes
pub content_bytes : (first : List ℕ) (e : Extension) → AreBytes first → IsExtension first e → AreBytes e.content
content_bytes first e are is = elim is [
  | inl m ↦ bytes_drop 2 (e.het ∷ m.hel ∷ e.content) (subst AreBytes m.spelling are)
  | inr o ↦ bytes_drop 1 (e.het ∷ e.content) (subst AreBytes o.spelling are)
]

-- and so are the other extensions
pub first_and_others : (area : List ℕ) (e : Extension) (es : List Extension) → AreBytes area → (are : AreExtensions area (e ∷ es)) → AreBytes e.content × AreBytes are.1
first_and_others area e es bytes are =
    let joined : AreBytes (are.0 ++ are.1) = subst AreBytes are.3 bytes in (
      content_bytes are.0 e (subst AreBytes (take_at are.0 are.1 (length are.0) refl) (bytes_take (length are.0) (are.0 ++ are.1) joined)) are.2,
      subst AreBytes (drop_at are.0 are.1 (length are.0) refl) (bytes_drop (length are.0) (are.0 ++ are.1) joined),
    )
