-- A packet as it is written is bytes.
use Rattle.std.proofs.Common.{ℕ, zero, suc, ◌/◌, ◌^◌, ◌<◌, ◌≤◌, Bool, true, false, List, [], ◌∷◌, ◌++◌, arith, length}
use Rattle.std.specs.Int.{byte_at, bytes_high_first}
use Rattle.std.proofs.Math.Nat.{mod-lt}
use Rattle.std.proofs.lemmas.List.Elements.{All-nil, All-cons, All-append}
use Rattle.byteorder.specs.Endian.{big_bytes}
use Rattle.wire_bytes.specs.Bytes.{IsByte, AreBytes}
use Rattle.lct_header.specs.Word.{FirstWord, FitsWord, bit, word_bytes}
use Rattle.lct_header.specs.Header.{Header, IsHeader}
use Rattle.lct_header.specs.Spelling.{spelling, word_of}
use Rattle.oti_blocks.specs.Partition.{ObjectInformation}
use Rattle.oti_blocks.specs.Wire.{fti, fti_content}
use Rattle.alc_packet.specs.Packet.{SymbolPacket, IsPacket}
use Rattle.alc_packet.specs.Datagram.{payload_id, payload_of}
use Rattle.alc_packet.specs.Writing.{header_of, written}
use Rattle.alc_packet.proofs.Public.{header_suits}

byte_few : (i n : ℕ) → byte_at i n < 256
byte_few zero n = mod-lt n (omega arith)
byte_few (suc i) n = mod-lt (n / 256 ^ suc i) (omega arith)

big : (n x : ℕ) → AreBytes (bytes_high_first n x)
big zero x = All-nil IsByte
big (suc n) x = All-cons IsByte (byte_at n x) (bytes_high_first n x) (byte_few n x) (big n x)

joined : (xs ys : List ℕ) → AreBytes xs → AreBytes ys → AreBytes (xs ++ ys)
joined xs ys are also = All-append IsByte xs ys are also

bit_few : (b : Bool) → bit b < 2
bit_few true = omega arith
bit_few false = omega arith

four : (a b c d : ℕ) → a < 256 → b < 256 → c < 256 → d < 256 → AreBytes (a ∷ b ∷ c ∷ d ∷ [])
four a b c d la lb lc ld =
    All-cons IsByte a (b ∷ c ∷ d ∷ []) la (All-cons IsByte b (c ∷ d ∷ []) lb (All-cons IsByte c (d ∷ []) lc (All-cons IsByte d [] ld (All-nil IsByte))))

word_is : (w : FirstWord) → FitsWord w → AreBytes (word_bytes w 0 0)
word_is w fits =
    let a = bit_few w.close_session in
    let b = bit_few w.close_object in
    four _ _ w.words w.codepoint (omega (arith, fits.c)) (omega (arith, fits.s, fits.o, fits.h, a, b)) fits.words fits.codepoint

word_fits : (h : Header) (area : ℕ) → IsHeader h → area ≤ 100 → FitsWord (word_of h area)
word_fits h area is few = record {
  c = omega arith;
  s = omega (arith, is.tsi_bits);
  o = omega (arith, is.toi_bits);
  h = omega arith;
  words = omega (arith, is.tsi_bits, is.toi_bits, few);
  codepoint = is.codepoint;
}

header_bytes : (h : Header) (area : List ℕ) → IsHeader h → length area ≤ 100 → AreBytes area → AreBytes (spelling h area)
unfolding spelling
header_bytes h area is few are =
    let word = word_bytes (word_of h (length area)) 0 0 in
    let zeros : List ℕ = 0 ∷ 0 ∷ 0 ∷ 0 ∷ [] in
    let tsi = big_bytes (h.tsi_bits / 8) h.tsi in
    let toi = big_bytes (h.toi_bits / 8) h.toi in
    joined (word ++ zeros ++ tsi ++ toi) area
    (joined (word ++ zeros ++ tsi) toi
    (joined (word ++ zeros) tsi
    (joined word zeros (word_is (word_of h (length area)) (word_fits h (length area) is few)) (four 0 0 0 0 (omega arith) (omega arith) (omega arith) (omega arith)))
    (big (h.tsi_bits / 8) h.tsi)) (big (h.toi_bits / 8) h.toi)) are

content_bytes : (o : ObjectInformation) → AreBytes (fti_content o)
content_bytes o =
    let length = big_bytes 6 o.length in
    let symbol = big_bytes 2 o.symbol in
    let block = big_bytes 1 o.max_block in
    joined (length ++ symbol ++ block) (big_bytes 1 o.max_n)
    (joined (length ++ symbol) block (joined length symbol (big 6 o.length) (big 2 o.symbol)) (big 1 o.max_block)) (big 1 o.max_n)

fti_bytes : (o : ObjectInformation) → AreBytes (fti o)
fti_bytes o = All-cons IsByte 64 (3 ∷ fti_content o) (omega arith) (All-cons IsByte 3 (fti_content o) (omega arith) (content_bytes o))

pub written_bytes : (p : SymbolPacket) → IsPacket p → AreBytes p.symbol → AreBytes (written p)
written_bytes p is symbol =
    joined (spelling (header_of p) (fti p.oti)) (payload_of p) (header_bytes (header_of p) (fti p.oti) (header_suits p is) (omega arith) (fti_bytes p.oti))
    (joined (payload_id p.sbn p.esi) p.symbol (joined (big_bytes 3 p.sbn) (big_bytes 1 p.esi) (big 3 p.sbn) (big 1 p.esi)) symbol)
