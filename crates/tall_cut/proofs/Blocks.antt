-- Records in one text: what a row more does to them, and where their fields stand.
use Rattle.std.proofs.Common.{◌≡◌, ◌≤◌, ◌<◌, ◌-◌, ◌+◌, ◌∙◌, ℕ, zero, suc, get_or, List, [], ◌∷◌, ◌++◌, take, drop, length, refl, sym, ap, arith, inl, inr}
use Rattle.std.proofs.lemmas.Bool.{cases_lt}
use Rattle.std.proofs.lemmas.List.{append-nil, append_assoc, drop-append-le, drop-drop, drop_all, get_or-drop, get_or-take, length-append, length-drop, length-take, length-take-le, take_more, take-append-drop, take-append-le, take_all}
use Rattle.csv.specs.Records.{Rising, Row, cut_from, fields_of, last_end, partial_of, prev, text_of}
use Rattle.csv.proofs.RecordFacts.{cut-length, cut-more, field-bounds, last-append, rising-end, rising-first, rising-more}
use Rattle.csv.proofs.ReadFacts.{get-same}
use Rattle.tall_scan.specs.Rows.{Fields}
use Rattle.tall_cut.specs.Blocks.{Closed, ends_from, groups, joined}
use Rattle.std.proofs.Math.Seq.{drop-append_seam, take-append_seam}

-- one group for each place
pub groups_length : (start : ℕ) (ends : List ℕ) (fields : Fields) → length (groups start ends fields) ≡ length ends
unfolding groups
groups_length start [] fields = refl
groups_length start (end ∷ ends) fields = ap suc (groups_length end ends fields)

-- fields after the last place change no group
groups-more : (start : ℕ) (ends : List ℕ) (fields more : Fields) → Rising start ends (length fields) → groups start ends (fields ++ more) ≡ groups start ends fields
unfolding groups Rising
groups-more start [] fields more h = refl
groups-more start (end ∷ ends) fields more h =
    let up = rising-first end ends (length fields) h.1 in
    let low = h.0 in
    let at : start ≤ length fields = omega arith in
    let size = length-drop start fields in
    let fits : end - start ≤ length (drop start fields) = omega arith in
    let head : take (end - start) (drop start (fields ++ more)) ≡ take (end - start) (drop start fields) =
    rw (drop-append-le start fields more at) (take-append-le (end - start) (drop start fields) more fits) in
    rw (head, groups-more end ends fields more h.1) refl

-- the number of fields as one more place adds the fields after the last place
groups-end : (start : ℕ) (ends : List ℕ) (fields : Fields) → Rising start ends (length fields)
    → groups start (ends ++ (length fields ∷ [])) fields ≡ groups start ends fields ++ (drop (last_end start ends) fields ∷ [])
unfolding groups Rising last_end
groups-end start [] fields h =
    let size = length-drop start fields in
    let all : length (drop start fields) ≤ length fields - start = omega arith in
    rw (take_all (length fields - start) (drop start fields) all) refl
groups-end start (end ∷ ends) fields h = rw (groups-end end ends fields h.1) refl

drop-front : (xs ys : Fields) → drop (length xs) (xs ++ ys) ≡ ys
drop-front [] ys = refl
drop-front (x ∷ xs) ys = drop-front xs ys

-- more fields, and a place after them, are one more group
groups-push : (ends : List ℕ) (fields more : Fields) → Rising 0 ends (length fields) → last_end 0 ends ≡ length fields
    → groups 0 (ends ++ (length (fields ++ more) ∷ [])) (fields ++ more) ≡ groups 0 ends fields ++ (more ∷ [])
groups-push ends fields more h last =
    let size = length-append fields more in
    let low : length fields ≤ length (fields ++ more) = omega arith in
    let up = rising-more 0 ends (length fields) (length (fields ++ more)) h low in
    groups-end 0 ends (fields ++ more) up ∙ rw (last, drop-front fields more, groups-more 0 ends fields more h) refl

-- The fields of a record follow each other.

-- no field yet
pub end_start : (start : ℕ) → start + length (joined []) ≡ start
unfolding joined
end_start start = omega arith

pub ends_start : (start : ℕ) (before : List ℕ) → before ≡ before ++ ends_from start []
unfolding ends_from
ends_start start before = sym (append-nil before)

-- one field more
pub joined_more : (fields : Fields) (field : List ℕ) → joined (fields ++ field ∷ []) ≡ joined fields ++ field
unfolding joined
joined_more [] field = append-nil field
joined_more (f ∷ fs) field = rw (joined_more fs field) (sym (append_assoc f (joined fs) field))

pub ends_more : (start : ℕ) (fields : Fields) (field : List ℕ) → ends_from start (fields ++ field ∷ []) ≡ ends_from start fields ++ (start + length (joined fields) + length field) ∷ []
unfolding joined ends_from
ends_more start [] field = ap (λ n. n ∷ []) (omega arith)
ends_more start (f ∷ fs) field =
    let size = length-append f (joined fs) in
    let same : start + length f + length (joined fs) + length field ≡ start + length (f ++ joined fs) + length field = omega arith in
    rw (ends_more (start + length f) fs field, same) refl

-- the same, of the fields of a record
pub end_next : (fields : Fields) (k start end width : ℕ) → k < length fields → start + length (joined (take k fields)) ≡ end → width ≡ length (get_or fields k [])
    → start + length (joined (take (k + 1) fields)) ≡ end + width
end_next fields k start end width lt e w =
    let size = length-append (joined (take k fields)) (get_or fields k []) in
    rw (take_more fields k [] lt, joined_more (take k fields) (get_or fields k [])) (omega arith)

pub ends_next : (fields : Fields) (k start end width : ℕ) (before now next : List ℕ) → k < length fields → start + length (joined (take k fields)) ≡ end → width ≡ length (get_or fields k [])
    → now ≡ before ++ ends_from start (take k fields) → next ≡ now ++ (end + width) ∷ [] → next ≡ before ++ ends_from start (take (k + 1) fields)
ends_next fields k start end width before now next lt e w i n =
    rw (n, i, take_more fields k [] lt, ends_more start (take k fields) (get_or fields k []), ← e, w)
    (append_assoc before (ends_from start (take k fields)) ((start + length (joined (take k fields)) + length (get_or fields k [])) ∷ []))

-- the widths of the fields up to the last place come at least to what they cut
width-low : (start : ℕ) (ends bytes : List ℕ) → length bytes ≤ last_end start ends → length bytes ≤ start + length (joined (cut_from start ends bytes))
unfolding cut_from joined last_end
width-low start [] bytes h = omega arith
width-low start (end ∷ ends) bytes h =
    let rest = width-low end ends bytes h in
    let size = length-append (take (end - start) (drop start bytes)) (joined (cut_from end ends bytes)) in
    let first = length-take (end - start) (drop start bytes) in
    let left = length-drop start bytes in
    omega arith

-- fields that are together as long as their text are the text
pub cut_joined : (start : ℕ) (ends bytes : List ℕ) → length bytes ≤ last_end start ends → length (joined (cut_from start ends bytes)) ≡ length bytes - start
    → joined (cut_from start ends bytes) ≡ drop start bytes
unfolding cut_from joined last_end
cut_joined start [] bytes h e = sym (drop_all start bytes h)
cut_joined start (end ∷ ends) bytes h e =
    let low = width-low end ends bytes h in
    let size = length-append (take (end - start) (drop start bytes)) (joined (cut_from end ends bytes)) in
    let first = length-take (end - start) (drop start bytes) in
    let left = length-drop start bytes in
    let rest : length (joined (cut_from end ends bytes)) ≡ length bytes - end = omega arith in
    rw (cut_joined end ends bytes h rest) (elim (cases_lt end start) [
      | inl down ↦ (
          let past : length bytes ≤ end = omega arith in
          let none : end - start ≡ 0 = omega arith in
          rw (none, drop_all end bytes past, drop_all start bytes (omega arith)) refl)
      | inr up ↦ (
          let whole : start + (end - start) ≡ end = omega arith in
          let two : drop end bytes ≡ drop (end - start) (drop start bytes) = rw whole at (sym (drop-drop (end - start) start bytes)) in
          rw two (take-append-drop (end - start) (drop start bytes)))
    ])

-- the fields of a record, where their ends fill the bytes that were added
pub row_joined : (row : Row) (bytes bytes2 : List ℕ) (from to : ℕ) → partial_of row ≡ [] → bytes2 ≡ bytes ++ text_of row → from ≡ length bytes → to ≡ length bytes2
    → from + length (joined (fields_of row)) ≡ to → joined (fields_of row) ≡ text_of row
row_joined row bytes bytes2 from to p b f t e =
    let none = ap length p in
    let left = length-drop (last_end 0 row.ends) row.bytes in
    let size : length bytes2 ≡ length bytes + length (text_of row) = ap length b ∙ length-append bytes (text_of row) in
    cut_joined 0 row.ends row.bytes (omega arith) (omega arith)

-- the fields of more places are the fields after those of the first
cut-after : (start : ℕ) (ends more bytes : List ℕ) → cut_from start (ends ++ more) bytes ≡ cut_from start ends bytes ++ cut_from (last_end start ends) more bytes
unfolding cut_from last_end
cut-after start [] more bytes = refl
cut-after start (end ∷ ends) more bytes = rw (cut-after end ends more bytes) refl

last-after : (start : ℕ) (ends more : List ℕ) → last_end start (ends ++ more) ≡ last_end (last_end start ends) more
unfolding last_end
last-after start [] more = refl
last-after start (end ∷ ends) more = last-after end ends more

last-ends : (start : ℕ) (fields : Fields) → last_end start (ends_from start fields) ≡ start + length (joined fields)
unfolding last_end joined ends_from
last-ends start [] = omega arith
last-ends start (f ∷ fs) =
    let size = length-append f (joined fs) in
    last-ends (start + length f) fs ∙ omega arith

rising-ends : (start : ℕ) (fields : Fields) (size : ℕ) → start + length (joined fields) ≤ size → Rising start (ends_from start fields) size
unfolding Rising joined ends_from
rising-ends start [] size h = omega arith
rising-ends start (f ∷ fs) size h =
    let all = length-append f (joined fs) in
    (omega arith, rising-ends (start + length f) fs size (omega arith))

rising-after : (start : ℕ) (ends more : List ℕ) (size : ℕ) → Rising start ends size → Rising (last_end start ends) more size → Rising start (ends ++ more) size
unfolding Rising last_end
rising-after start [] more size h g = g
rising-after start (end ∷ ends) more size h g = (h.0, rising-after end ends more size h.1 g)

-- fields are cut from their bytes at their ends
cut-ends : (front : List ℕ) (fields : Fields) → cut_from (length front) (ends_from (length front) fields) (front ++ joined fields) ≡ fields
unfolding cut_from joined ends_from
cut-ends front [] = refl
cut-ends front (f ∷ fs) =
    let size = length-append front f in
    let here : drop (length front) (front ++ (f ++ joined fs)) ≡ f ++ joined fs = drop-append_seam front (f ++ joined fs) in
    let width : length front + length f - length front ≡ length f = omega arith in
    let assoc = append_assoc front f (joined fs) in
    let next : cut_from (length front + length f) (ends_from (length front + length f) fs) (front ++ (f ++ joined fs)) ≡ fs =
    rw (← size, ← assoc) (cut-ends (front ++ f) fs) in
    rw (here, width, next, take-append_seam f (joined fs)) refl

-- A record more.

pub records_push : (bytes fields ends bytes2 fields2 ends2 text : List ℕ) (row : Fields) → Closed bytes fields ends → joined row ≡ text → bytes2 ≡ bytes ++ text → fields2 ≡ fields ++ ends_from (length bytes) row
    → cut_from 0 fields2 bytes2 ≡ cut_from 0 fields bytes ++ row
records_push bytes fields ends bytes2 fields2 ends2 text row h t b f =
    rw (b, f, ← t, cut-after 0 fields (ends_from (length bytes) row) (bytes ++ joined row), cut-more 0 fields bytes (joined row) h.inside.fields, h.bytes, cut-ends bytes row) refl

pub rows_push : (bytes fields ends bytes2 fields2 ends2 text : List ℕ) (row : Fields) → Closed bytes fields ends → joined row ≡ text → bytes2 ≡ bytes ++ text → fields2 ≡ fields ++ ends_from (length bytes) row
    → ends2 ≡ ends ++ (length fields2 ∷ []) → groups 0 ends2 (cut_from 0 fields2 bytes2) ≡ groups 0 ends (cut_from 0 fields bytes) ++ (row ∷ [])
rows_push bytes fields ends bytes2 fields2 ends2 text row h t b f e =
    let all = records_push bytes fields ends bytes2 fields2 ends2 text row h t b f in
    let size : length fields2 ≡ length (cut_from 0 fields bytes ++ row) = sym (cut-length 0 fields2 bytes2) ∙ ap length all in
    rw (e, size, all) (groups-push ends (cut_from 0 fields bytes) row h.inside.records h.fields)

pub closed_push : (bytes fields ends bytes2 fields2 ends2 text : List ℕ) (row : Fields) → Closed bytes fields ends → joined row ≡ text → bytes2 ≡ bytes ++ text → fields2 ≡ fields ++ ends_from (length bytes) row
    → ends2 ≡ ends ++ (length fields2 ∷ []) → Closed bytes2 fields2 ends2
closed_push bytes fields ends bytes2 fields2 ends2 text row h t b f e =
    let all = records_push bytes fields ends bytes2 fields2 ends2 text row h t b f in
    let count : length fields2 ≡ length (cut_from 0 fields2 bytes2) = sym (cut-length 0 fields2 bytes2) in
    let size : length (cut_from 0 fields2 bytes2) ≡ length (cut_from 0 fields bytes) + length row = ap length all ∙ length-append (cut_from 0 fields bytes) row in
    let low : length (cut_from 0 fields bytes) ≤ length (cut_from 0 fields2 bytes2) = omega arith in
    let up = rising-more 0 ends (length (cut_from 0 fields bytes)) (length (cut_from 0 fields2 bytes2)) h.inside.records low in
    let text_size : length bytes2 ≡ length bytes + length text = ap length b ∙ length-append bytes text in
    let more : length bytes ≤ length bytes2 = omega arith in
    let joined_size : length (joined row) ≡ length text = ap length t in
    let last : last_end 0 fields2 ≡ length bytes + length (joined row) = rw f (last-after 0 fields (ends_from (length bytes) row) ∙ rw h.bytes (last-ends (length bytes) row)) in
    let rising : Rising (last_end 0 fields) (ends_from (length bytes) row) (length bytes2) = rw h.bytes (rising-ends (length bytes) row (length bytes2) (omega arith)) in
    record {
      inside = record {
        fields = rw f (rising-after 0 fields (ends_from (length bytes) row) (length bytes2) (rising-more 0 fields (length bytes) (length bytes2) h.inside.fields more) rising);
        records = rw (e, count) (rising-end 0 ends (length (cut_from 0 fields2 bytes2)) up);
      };
      bytes = last ∙ omega arith;
      fields = rw (e, count) (last-append 0 ends (length (cut_from 0 fields2 bytes2)));
    }

-- one field alone
pub field_pushed : (row : Fields) (f bytes bytes2 fields fields2 : List ℕ) (size : ℕ) → length row ≡ 1 → f ≡ get_or row 0 [] → bytes2 ≡ bytes ++ f → size ≡ length bytes2 → fields2 ≡ fields ++ size ∷ []
    → (joined row ≡ f) × (fields2 ≡ fields ++ ends_from (length bytes) row)
unfolding joined ends_from
field_pushed [] f bytes bytes2 fields fields2 size one e b n p = absurd (omega (arith, one))
field_pushed (g ∷ []) f bytes bytes2 fields fields2 size one e b n p =
    let width : length bytes2 ≡ length bytes + length f = ap length b ∙ length-append bytes f in
    let same = ap length e in
    let end : size ≡ length bytes + length g = omega arith in
    (append-nil g ∙ sym e, p ∙ ap (λ m. fields ++ m ∷ []) end)
field_pushed (g ∷ h ∷ rest) f bytes bytes2 fields fields2 size one e b n p = absurd (omega (arith, one))

-- no record yet
pub closed_start : (bytes fields ends : List ℕ) → bytes ≡ [] → fields ≡ [] → ends ≡ [] → Closed bytes fields ends
unfolding Rising last_end cut_from
closed_start bytes fields ends b f e = rw (b, f, e) (record { inside = record { fields = omega arith; records = omega arith }; bytes = refl; fields = refl })

pub groups_none : (fields : Fields) → groups 0 [] fields ≡ []
unfolding groups
groups_none fields = refl

-- a place of a field is one of the places where fields end
pub place_there : (bytes places : List ℕ) (place : ℕ) → place < length (cut_from 0 places bytes) → place < length places
place_there bytes places place h = rw (cut-length 0 places bytes) at h

-- a group is the fields between its start and its end
group-cut : (start : ℕ) (ends : List ℕ) (fields : Fields) (i : ℕ) → i < length ends
    → get_or (groups start ends fields) i [] ≡ take (get_or ends i 0 - prev start ends i) (drop (prev start ends i) fields)
unfolding groups prev
group-cut start [] fields i lt = absurd (omega arith)
group-cut start (e ∷ es) fields zero lt = refl
group-cut start (e ∷ es) fields (suc i) lt = group-cut e es fields i (omega arith)

-- how many fields a group has
group_width : (ends : List ℕ) (fields : Fields) (i : ℕ) → Rising 0 ends (length fields) → i < length ends
    → length (get_or (groups 0 ends fields) i []) ≡ get_or ends i 0 - prev 0 ends i
group_width ends fields i h lt =
    let b = field-bounds 0 ends (length fields) i h lt in
    let size = length-drop (prev 0 ends i) fields in
    let low = b.0 in
    let high = b.1 in
    let fits : get_or ends i 0 - prev 0 ends i ≤ length (drop (prev 0 ends i) fields) = omega arith in
    rw (group-cut 0 ends fields i lt) (length-take-le (get_or ends i 0 - prev 0 ends i) (drop (prev 0 ends i) fields) fits)

-- a field of a group is a field of all
group_field : (ends : List ℕ) (fields : Fields) (i k : ℕ) → i < length ends → k < get_or ends i 0 - prev 0 ends i
    → get_or (get_or (groups 0 ends fields) i []) k [] ≡ get_or fields (prev 0 ends i + k) []
group_field ends fields i k lt inside =
    rw (group-cut 0 ends fields i lt)
    (get_or-take (get_or ends i 0 - prev 0 ends i) (drop (prev 0 ends i) fields) k [] inside ∙ get_or-drop (prev 0 ends i) fields k [])

-- and stands among them
group_inside : (ends : List ℕ) (fields : Fields) (i k : ℕ) → Rising 0 ends (length fields) → i < length ends → k < get_or ends i 0 - prev 0 ends i
    → prev 0 ends i + k < length fields
group_inside ends fields i k h lt inside =
    let b = field-bounds 0 ends (length fields) i h lt in
    let low = b.0 in
    let high = b.1 in
    omega arith

-- The same of the records as a caller sees them, all, of which these are the groups.

pub place_inside : (ends : List ℕ) (fields : Fields) (all : List Fields) (i : ℕ) → groups 0 ends fields ≡ all → i < length all → i < length ends
place_inside ends fields all i e lt = rw (groups_length 0 ends fields) at (rw (← e) at lt)

pub width_low : (ends : List ℕ) (fields : Fields) (all : List Fields) (i d : ℕ) → groups 0 ends fields ≡ all → Rising 0 ends (length fields) → i < length all
    → prev 0 ends i ≤ get_or ends i d
width_low ends fields all i d e h lt =
    let here = place_inside ends fields all i e lt in
    rw (get-same ends i d 0 here) (field-bounds 0 ends (length fields) i h here).0

pub width_is : (ends : List ℕ) (fields : Fields) (all : List Fields) (i d : ℕ) → groups 0 ends fields ≡ all → Rising 0 ends (length fields) → i < length all
    → get_or ends i d - prev 0 ends i ≡ length (get_or all i [])
width_is ends fields all i d e h lt =
    let here = place_inside ends fields all i e lt in
    rw (get-same ends i d 0 here, ← e) (sym (group_width ends fields i h here))

pub field_inside : (ends : List ℕ) (fields : Fields) (all : List Fields) (i k : ℕ) → groups 0 ends fields ≡ all → Rising 0 ends (length fields) → i < length all
    → k < length (get_or all i []) → prev 0 ends i + k < length fields
field_inside ends fields all i k e h lt inside =
    group_inside ends fields i k h (place_inside ends fields all i e lt) (rw (← width_is ends fields all i 0 e h lt) at inside)

pub field_is : (ends : List ℕ) (fields : Fields) (all : List Fields) (i k : ℕ) → groups 0 ends fields ≡ all → Rising 0 ends (length fields) → i < length all
    → k < length (get_or all i []) → get_or fields (prev 0 ends i + k) [] ≡ get_or (get_or all i []) k []
field_is ends fields all i k e h lt inside =
    let here = rw (← width_is ends fields all i 0 e h lt) at inside in
    rw (← e) (sym (group_field ends fields i k (place_inside ends fields all i e lt) here))

-- Records of others.

-- the fields of a record, one more
pub joined_next : (fields : Fields) (k : ℕ) (before now field next : List ℕ) → k < length fields → field ≡ get_or fields k [] → now ≡ before ++ joined (take k fields) → next ≡ now ++ field
    → next ≡ before ++ joined (take (k + 1) fields)
joined_next fields k before now field next lt f i n =
    rw (n, i, f, take_more fields k [] lt, joined_more (take k fields) (get_or fields k [])) (append_assoc before (joined (take k fields)) (get_or fields k []))

-- where they end, one more; `bytes` are those of the fields so far
pub ends_copied : (fields : Fields) (k : ℕ) (start bytes field next before now ends : List ℕ) (end : ℕ) → k < length fields → field ≡ get_or fields k [] → bytes ≡ start ++ joined (take k fields) → next ≡ bytes ++ field → end ≡ length next
    → now ≡ before ++ ends_from (length start) (take k fields) → ends ≡ now ++ end ∷ [] → ends ≡ before ++ ends_from (length start) (take (k + 1) fields)
ends_copied fields k start bytes field next before now ends end lt f b n e i g =
    let size : length bytes ≡ length start + length (joined (take k fields)) = ap length b ∙ length-append start (joined (take k fields)) in
    let more : length next ≡ length bytes + length field = ap length n ∙ length-append bytes field in
    ends_next fields k (length start) (length bytes) (length field) before now ends lt (sym size) (ap length f) i (g ∙ ap (λ m. now ++ m ∷ []) (e ∙ more))

-- a record more
pub part_next : (all now next : List Fields) (start i : ℕ) → start ≤ i → i < length all → now ≡ take (i - start) (drop start all) → next ≡ now ++ get_or all i [] ∷ []
    → next ≡ take (i + 1 - start) (drop start all)
part_next all now next start i low lt is n =
    let size = length-drop start all in
    let inside : i - start < length (drop start all) = omega arith in
    let place : start + (i - start) ≡ i = omega arith in
    let more : i + 1 - start ≡ (i - start) + 1 = omega arith in
    rw (n, is, more, take_more (drop start all) (i - start) [] inside, get_or-drop start all (i - start) [], place) refl

pub joined_start : (before : List ℕ) → before ≡ before ++ joined []
unfolding joined
joined_start before = sym (append-nil before)
