-- The cases P1 to P10, Block_HASH and the worked example of reference/cases/document.txt, and the open place of refusal 20, by computation from the
-- bytes of each sheet. Assumes nothing.
use Prim.Native.Nat.{ℕ, ◌*◌}
use Prim.Native.String.{String}
use mathlib.Core.Path.{◌≡◌, refl}
use mathlib.Core.List.{List, [], ◌∷◌, ◌++◌}
use lib.ListN.{length}
use Rattle.text.specs.Text.{bytes}
use Rattle.sheet.specs.Load.{copies, load}
use Rattle.rules.specs.Verdict.{Answer, places}
use Rattle.rules.specs.Computed.{computed}
use Rattle.sheet.specs.Scratch.{cells_per_line}

abbrev Sheet : Type 0
Sheet = List String

-- lines of text as the bytes of a sheet
sheet : Sheet → List ℕ
sheet [] = []
sheet (l ∷ ls) = bytes l ++ (10 ∷ sheet ls)

-- the rules' answer, with as much lent as the lines want and 16,384 bytes for the message
answer : Sheet → Answer
unfolding computed sheet
answer ls = computed (sheet ls) (length ls) (cells_per_line * length ls) 16384

abbrev verdict : Sheet → ℕ × ℕ
verdict ls = ((answer ls).number, (answer ls).place)

-- a state of one field with a default
default : String → String → Sheet
default ty value = "contract,1" ∷ "state,1" ∷ "field,1,x,1" ∷ ty ∷ value ∷ []

-- a state of one guardian set
guardians : String → Sheet → Sheet
guardians ty args = "contract,1" ∷ "state,1" ∷ "field,1,g,0" ∷ ty ∷ args

-- an entry that guards `owner == ..`
owner : Sheet → Sheet
owner other =
    "contract,2" ∷ "state,1" ∷ "field,1,owner,0" ∷ "type,2,Q_Address,0" ∷ "entry,0,0,1" ∷ "guard" ∷ "bin,3,eq" ∷ "id,4,owner" ∷ other

-- an event of one u64, and an entry that emits it
emits : Sheet → Sheet
emits args = "contract,2" ∷ "event,E,1" ∷ "param,v" ∷ "type,1,u64,0" ∷ "entry,0,0,1" ∷ args

-- a Q_Asset `pool`, and a statement that ends in `pool.split(5)`
pool : Sheet → Sheet
pool stmt =
    "contract,2" ∷ "state,1" ∷ "field,1,pool,0" ∷ "type,2,Q_Asset,0" ∷ "entry,0,0,1"
    ∷ (stmt ++ ("call,4,1" ∷ "dot,5,split,6" ∷ "id,7,pool" ∷ "int,8,5" ∷ []))

-- a Map<Q_Address, u64> `m`, with `m.set(p, 1)` in the first entry, where p is a name
mapped : String → Sheet → Sheet
mapped contract rest =
    contract ∷ "state,1" ∷ "field,1,m,0" ∷ "type,2,Map,2" ∷ "type,3,Q_Address,0" ∷ "type,4,u64,0" ∷ "entry,1,0,1" ∷ "param,p"
    ∷ "type,5,Q_Name,0" ∷ "do" ∷ "call,6,2" ∷ "dot,7,set,8" ∷ "id,9,m" ∷ "id,10,p" ∷ "int,11,1" ∷ rest

-- a u64 field `total`, and an entry with a u64 parameter `v` and these clauses, that says `total += v`
grows : String → Sheet → Sheet
grows entry clauses =
    "contract,2" ∷ "state,1" ∷ "field,1,total,0" ∷ "type,2,u64,0" ∷ entry ∷ "param,v" ∷ "type,3,u64,0"
    ∷ (clauses ++ ("assign,4,add" ∷ "id,5,total" ∷ "id,6,v" ∷ []))

-- an invariant of n `checked` over an `id`
checked : ℕ → Sheet
checked n = "contract,1" ∷ "invariant" ∷ (copies n "checked,7" ++ ("id,8,x" ∷ []))

-- a Q_Word64 field of this name
word : String → Sheet
word field = "contract,1" ∷ "state,1" ∷ field ∷ "type,2,Q_Word64,0" ∷ []

-- the cases, each with its number and place
cases : List (Sheet × ℕ × ℕ)
cases =
    -- P1
    ("contract,0" ∷ [], 0, 0)
    -- P2
    ∷ (default "type,2,u8,0" "int,3,255", 0, 0)
    ∷ (default "type,2,u8,0" "int,3,256", 27, 3)
    -- P3
    ∷ (default "type,2,u32,0" "int,3,4294967296", 27, 3)
    ∷ (default "type,2,u32,0" "int,3,340282366920938463463374607431768211455", 27, 3)
    ∷ (default "type,2,u32,0" "int,3,340282366920938463463374607431768211456", 0, 0)
    -- P4
    ∷ (guardians "type,2,GuardianSet,1" ("num,256" ∷ []), 0, 0)
    ∷ (guardians "type,2,GuardianSet,1" ("num,1_0" ∷ []), 0, 0)
    ∷ (guardians "type,2,GuardianSet,1" ("num,257" ∷ []), 20, 2)
    ∷ (guardians "type,2,GuardianSet,1" ("num,0" ∷ []), 20, 2)
    ∷ (guardians "type,2,GuardianSet,1" ("num,_" ∷ []), 20, 2)
    ∷ (guardians "type,2,GuardianSet,0" [], 20, 2)
    -- P5
    ∷ (owner ("int,5,0_0" ∷ []), 0, 0)
    ∷ (owner ("int,5,1" ∷ []), 42, 5)
    ∷ (owner ("checked,5" ∷ "int,6,0" ∷ []), 42, 5)
    -- P6
    ∷ (emits ("emit,E,2" ∷ "int,2,1" ∷ "caller,3" ∷ []), 0, 0)
    ∷ (emits ("emit,E,1" ∷ "caller,2" ∷ []), 43, 2)
    -- P7
    ∷ (pool ("do" ∷ []), 0, 0)
    ∷ (pool ("let,y" ∷ "checked,3" ∷ []), 44, 4)
    -- P8, and its first entry alone
    ∷ (mapped "contract,2" [], 0, 0)
    ∷ (mapped "contract,3" ("entry,0,0,1" ∷ "do" ∷ "call,12,2" ∷ "dot,13,set,14" ∷ "id,15,m" ∷ "caller,16" ∷ "int,17,1" ∷ []), 46, 16)
    -- P9
    ∷ (grows "entry,1,0,1" [], 45, 4)
    ∷ (grows "entry,1,1,1" ("limits" ∷ "bin,7,ge" ∷ "int,8,100" ∷ "id,9,total" ∷ []), 0, 0)
    ∷ (grows "entry,1,1,1" ("limits" ∷ "bin,7,le" ∷ "checked,8" ∷ "id,9,total" ∷ "int,10,100" ∷ []), 45, 4)
    -- P10
    ∷ (checked 62, 0, 0)
    ∷ (checked 63, 7, 66)
    -- refusal 18
    ∷ (word "field,1,Block_HASH,0", 18, 2)
    ∷ (word "field,1,Block_HSAH,0", 0, 0)
    ∷ []

given : List (Sheet × ℕ × ℕ) → List (ℕ × ℕ)
given [] = []
given (c ∷ cs) = verdict c.0 ∷ given cs

stated : List (Sheet × ℕ × ℕ) → List (ℕ × ℕ)
stated [] = []
stated (c ∷ cs) = (c.1, c.2) ∷ stated cs

-- every case has its number and place
proved : given cases ≡ stated cases
unfolding answer copies default guardians owner emits pool mapped grows checked word cases given stated
proved = refl

-- a state of four guardian sets: g of 0 members, h of 257, g again of 257, k of 256
several : Sheet
several =
    "contract,1" ∷ "state,4" ∷ "field,1,g,0" ∷ "type,2,GuardianSet,1" ∷ "num,0" ∷ "field,3,h,0" ∷ "type,4,GuardianSet,1" ∷ "num,257"
    ∷ "field,5,g,0" ∷ "type,6,GuardianSet,1" ∷ "num,257" ∷ "field,7,k,0" ∷ "type,8,GuardianSet,1" ∷ "num,256" ∷ []

-- the places that are allowed
allowed : Sheet → List ℕ
unfolding computed sheet
allowed ls = places (load (sheet ls) (length ls) (cells_per_line * length ls)) (answer ls).number (answer ls).place

-- refusal 20 may name any bad field that is the last of its name; the rules name the first
open_place : (verdict several ≡ (20, 4)) × (allowed several ≡ 4 ∷ 6 ∷ [])
unfolding answer several allowed
open_place = (refl, refl)

-- P1's count
P1-count : (answer ("contract,0" ∷ [])).count ≡ 0
unfolding answer
P1-count = refl

level : Sheet
level = "contract,1" ∷ "state,1" ∷ "field,10,level,1" ∷ "type,11,u8,0" ∷ "int,17,300" ∷ []

-- the worked example, whole
worked : answer level ≡ record {
  number = 27;
  place = 17;
  count = 1;
  length = 52;
  message = bytes "300 does not fit `level`, whose largest value is 255";
  types = 0 ∷ 0 ∷ 0 ∷ 0 ∷ 1 ∷ [];
}
unfolding answer level
worked = refl
