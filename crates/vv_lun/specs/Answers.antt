-- The bytes of answers: INQUIRY, REQUEST SENSE (SPC-5) and READ CAPACITY (SBC-4). All numbers in them are big endian.
-- All values are this project's own choice.
use Rattle.std.specs.Prelude.{ℕ, ◌+◌, ◌-◌, ◌/◌, ◌%◌, List, [], ◌∷◌, ◌++◌, codes, replicate, nat_lt, if◌then◌else◌}
use Rattle.std.specs.List.{flat_map}
use Rattle.byteorder.specs.Endian.{big_bytes}

-- Standard INQUIRY data, 36 bytes: the peripheral qualifier and device type, a byte that is 40h for a unit of a
-- conglomerate, the version of SPC-5, the response data format, how many bytes follow, a byte that is 02h where
-- commands are queued, and the texts of vendor, product and revision.
unfoldable pub standard_data : ℕ → ℕ → List ℕ → List ℕ
standard_data device unit product =
    device ∷ unit ∷ 0x07 ∷ 0x02 ∷ 0x1f ∷ 0x00 ∷ 0x00 ∷ 0x02 ∷ []
    ++ codes "VVPROJ  " ++ product ++ codes "0001"

abbrev pub volume_data : List ℕ
volume_data = standard_data 0x00 0x40 (codes "VIRTUAL VOLUME  ")

abbrev pub endpoint_data : List ℕ
endpoint_data = standard_data 0x00 0x40 (codes "PROTOCOL ENDPT  ")

abbrev pub unbound_data : List ℕ
unbound_data = standard_data 0x7f 0x00 (codes "                ")

-- INQUIRY page 00h: the pages that there are, 00h and 80h
abbrev pub page_list : List ℕ
page_list = 0x00 ∷ 0x00 ∷ 0x00 ∷ 0x02 ∷ 0x00 ∷ 0x80 ∷ []

-- the character of a digit below 16, in lower case
abbrev pub digit : ℕ → ℕ
digit n = if nat_lt n 10 then 48 + n else 87 + n

-- sixteen hexadecimal digits: two for each byte of a number of eight
unfoldable pub digits : ℕ → List ℕ
digits number = flat_map (λ byte. digit (byte / 16) ∷ digit (byte % 16) ∷ []) (big_bytes 8 number)

-- INQUIRY page 80h: the unit's serial number, a letter and the digits of a number
abbrev pub serial_page : ℕ → ℕ → List ℕ
serial_page letter number = 0x00 ∷ 0x80 ∷ 0x00 ∷ 0x11 ∷ letter ∷ digits number

-- READ CAPACITY(10): the last logical block address, and the bytes of a block
abbrev pub capacity_10 : ℕ → List ℕ
capacity_10 blocks = big_bytes 4 (blocks - 1) ++ big_bytes 4 512

-- READ CAPACITY(16): the same with an address of eight bytes, and byte 14 is C0h, which says that blocks may be
-- unmapped and are zeros then
abbrev pub capacity_16 : ℕ → List ℕ
capacity_16 blocks = big_bytes 8 (blocks - 1) ++ big_bytes 4 512 ++ 0x00 ∷ 0x00 ∷ 0xc0 ∷ replicate 17 0

-- the serial numbers of a volume, with the letter v, and of an endpoint, with p
abbrev pub volume_page : ℕ → List ℕ
volume_page number = serial_page 0x76 number

abbrev pub endpoint_page : ℕ → List ℕ
endpoint_page number = serial_page 0x70 number
