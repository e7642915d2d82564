-- Numbers in a run of bytes.
use Rattle.std.specs.Prelude.{ℕ, ◌+◌, ◌*◌, List, get_or}

-- Two bytes from an offset on, little-endian; a byte past the end counts 0.
unfoldable pub u16 : List ℕ → ℕ → ℕ
u16 s at = get_or s at 0 + 256 * get_or s (at + 1) 0
