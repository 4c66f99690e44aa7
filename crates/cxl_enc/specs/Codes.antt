-- The codes of interleave ways and granularity (CXL HDM decoder control).
use Rattle.std.specs.Prelude.{ℕ, ◌-◌, ◌*◌, ◌/◌, ◌%◌, ◌^◌, nat_lt, nat_le, ◌==◌, ◌&&◌, Bool, Option, Some, None, is_some, if◌then◌else◌}

-- the codes 0 to 4 stand for the ways 1, 2, 4, 8 and 16, the codes 8 to 10 for 3, 6 and 12, and no other code for anything
abbrev pub ways_of : ℕ → Option ℕ
ways_of code =
    if nat_lt code 5 then Some (2 ^ code)
    else (if nat_le 8 code && nat_lt code 11 then Some (3 * 2 ^ (code - 8)) else None)

-- the bytes of a chunk: each code more doubles the granularity
abbrev pub chunk_size : ℕ → ℕ
chunk_size gran = 256 * 2 ^ gran

-- code e, 0 to 6, stands for 256 * 2 ^ e bytes, and no other code for anything
abbrev pub granularity_of : ℕ → Option ℕ
granularity_of code = if nat_lt code 7 then Some (chunk_size code) else None

-- the tables backwards
abbrev pub code_in_table : ℕ → Option ℕ
code_in_table w =
    if w == 1 then Some 0 else (if w == 2 then Some 1 else (if w == 4 then Some 2 else (if w == 8 then Some 3
    else (if w == 16 then Some 4 else (if w == 3 then Some 8 else (if w == 6 then Some 9 else (if w == 12 then Some 10 else None)))))))

-- and of granularities
abbrev pub gran_code_in_table : ℕ → Option ℕ
gran_code_in_table b =
    if b == 256 then Some 0 else (if b == 512 then Some 1 else (if b == 1024 then Some 2 else (if b == 2048 then Some 3
    else (if b == 4096 then Some 4 else (if b == 8192 then Some 5 else (if b == 16384 then Some 6 else None))))))

-- a number of ways that has a code
abbrev pub is_ways : ℕ → Bool
is_ways ways = is_some (code_in_table ways)

-- the t of ways t * 2 ^ k: 3 where 3 divides them, and else 1
abbrev pub third_of : ℕ → ℕ
third_of ways = if ways % 3 == 0 then 3 else 1

-- the exponent of a power of two up to 16
abbrev pub log2_of : ℕ → ℕ
log2_of n = if n == 16 then 4 else (if n == 8 then 3 else (if n == 4 then 2 else (if n == 2 then 1 else 0)))

-- the k of ways t * 2 ^ k
abbrev pub bits_of : ℕ → ℕ
bits_of ways = log2_of (ways / third_of ways)
