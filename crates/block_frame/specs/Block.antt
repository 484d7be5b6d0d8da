-- The bytes of a block (Klipper's Protocol.md, "Message Blocks").
use Rattle.std.specs.Prelude.{ℕ, ◌+◌, ◌*◌, ◌/◌, ◌%◌, ◌^◌, List, [], ◌∷◌, ◌++◌, length, bit_and, bit_or, bit_xor}

-- the byte that a checksum takes in, mixed
abbrev pub mixed : ℕ → ℕ → ℕ
mixed crc byte = let d = bit_xor byte (bit_and crc 255) in bit_xor d (bit_and (d * 2 ^ 4) 255)

-- the checksum once the mixed byte is in
abbrev pub with_mixed : ℕ → ℕ → ℕ
with_mixed crc d = bit_xor (bit_xor (bit_or (d * 2 ^ 8) (crc / 2 ^ 8)) (d / 2 ^ 4)) (d * 2 ^ 3) % 2 ^ 16

-- the checksum of these bytes behind this one
unfoldable pub checksum_after : ℕ → List ℕ → ℕ
checksum_after crc [] = crc
checksum_after crc (byte ∷ bytes) = checksum_after (with_mixed crc (mixed crc byte)) bytes

-- the checksum of a block's length, sequence byte and content
unfoldable pub checksum : List ℕ → ℕ
checksum bytes = checksum_after 65535 bytes

-- what the checksum is of
abbrev pub covered : ℕ → List ℕ → List ℕ
covered number content = (length content + 5) ∷ (16 + number) ∷ content

-- the checksum, its high byte first, and the byte that ends a block
abbrev pub ending : ℕ → List ℕ
ending crc = (crc / 256) ∷ (crc % 256) ∷ 126 ∷ []

-- the block of a number and a content
abbrev pub block_text : ℕ → List ℕ → List ℕ
block_text number content = covered number content ++ ending (checksum (covered number content))
