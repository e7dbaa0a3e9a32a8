-- Worked values: what the definitions say of them, by computation.
use Rattle.std.proofs.Common.{◌≡◌, ℕ, ◌^◌, List, [], ◌∷◌, refl}
use Rattle.std.specs.Prelude.{codes}
use Rattle.adb_view.specs.Plain.{Plain, null, int, blob, arr, obj, none, more}
use Rattle.adb_block.specs.Written.{head_bytes}
use Rattle.adb_write.specs.Canonical.{canonical, write}
use Rattle.adb_write.specs.Size.{payload_size_of, value_count, entries_of}
use Rattle.adb_write.specs.File.{file_of}

-- a package with the name `a` and the version `1`
abbrev a_package : Plain
a_package = obj (more (obj (more (blob (codes "a")) (more (blob (codes "1")) none))) none)

abbrev package_payload : List ℕ
package_payload = 0 ∷ 0 ∷ 0 ∷ 0 ∷ 24 ∷ 0 ∷ 0 ∷ 224 ∷ 1 ∷ 97 ∷ 1 ∷ 49 ∷ 3 ∷ 0 ∷ 0 ∷ 0 ∷ 8 ∷ 0 ∷ 0 ∷ 128 ∷ 10 ∷ 0 ∷ 0 ∷ 128 ∷ 2 ∷ 0 ∷ 0 ∷ 0 ∷ 12 ∷ 0 ∷ 0 ∷ 224 ∷ []

package_written : canonical a_package ≡ package_payload
unfolding write
package_written = refl

package_size : payload_size_of a_package ≡ 32
unfolding write
package_size = refl

package_count : value_count a_package ≡ 4
unfolding entries_of
package_count = refl

package_file : file_of 0x676b6370 package_payload ≡ 65 ∷ 68 ∷ 66 ∷ 46 ∷ 112 ∷ 99 ∷ 107 ∷ 103 ∷ 36 ∷ 0 ∷ 0 ∷ 0 ∷ 0 ∷ 0 ∷ 0 ∷ 0 ∷ 24 ∷ 0 ∷ 0 ∷ 224 ∷ 1 ∷ 97 ∷ 1 ∷ 49 ∷ 3 ∷ 0 ∷ 0 ∷ 0 ∷ 8 ∷ 0 ∷ 0 ∷ 128 ∷ 10 ∷ 0 ∷ 0 ∷ 128 ∷ 2 ∷ 0 ∷ 0 ∷ 0 ∷ 12 ∷ 0 ∷ 0 ∷ 224 ∷ 0 ∷ 0 ∷ 0 ∷ 0 ∷ []
unfolding head_bytes
package_file = refl

-- a package whose origin is its name
shared_written : canonical (obj (more (obj (more (blob (codes "a")) (more (blob (codes "1")) (more null (more null (more null (more null (more (blob (codes "a")) none)))))))) none))
    ≡ 0 ∷ 0 ∷ 0 ∷ 0 ∷ 44 ∷ 0 ∷ 0 ∷ 224 ∷ 1 ∷ 97 ∷ 1 ∷ 49 ∷ 8 ∷ 0 ∷ 0 ∷ 0 ∷ 8 ∷ 0 ∷ 0 ∷ 128 ∷ 10 ∷ 0 ∷ 0 ∷ 128
    ∷ 0 ∷ 0 ∷ 0 ∷ 0 ∷ 0 ∷ 0 ∷ 0 ∷ 0 ∷ 0 ∷ 0 ∷ 0 ∷ 0 ∷ 0 ∷ 0 ∷ 0 ∷ 0 ∷ 8 ∷ 0 ∷ 0 ∷ 128 ∷ 2 ∷ 0 ∷ 0 ∷ 0 ∷ 12 ∷ 0 ∷ 0 ∷ 224 ∷ []
unfolding write
shared_written = refl

-- an intent with the one write `a`: its first field is Null
intent_written : canonical (obj (more null (more (arr (more (blob (codes "a")) none)) none))) ≡ 0 ∷ 0 ∷ 0 ∷ 0 ∷ 20 ∷ 0 ∷ 0 ∷ 224 ∷ 1 ∷ 97 ∷ 0 ∷ 0 ∷ 2 ∷ 0 ∷ 0 ∷ 0 ∷ 8 ∷ 0 ∷ 0 ∷ 128 ∷ 3 ∷ 0 ∷ 0 ∷ 0 ∷ 0 ∷ 0 ∷ 0 ∷ 0 ∷ 12 ∷ 0 ∷ 0 ∷ 208 ∷ []
unfolding write
intent_written = refl

-- equal blobs and integers are written once, and an integer of eight bytes is at a multiple of eight
integers_written : canonical (arr (more (blob (codes "a")) (more (blob (codes "a")) (more (int 0) (more (int (2 ^ 28)) (more (int (2 ^ 32)) (more (int (2 ^ 28)) (more null none))))))))
    ≡ 0 ∷ 0 ∷ 0 ∷ 0 ∷ 24 ∷ 0 ∷ 0 ∷ 208 ∷ 1 ∷ 97 ∷ 0 ∷ 0 ∷ 0 ∷ 0 ∷ 0 ∷ 16 ∷ 0 ∷ 0 ∷ 0 ∷ 0 ∷ 1 ∷ 0 ∷ 0 ∷ 0
    ∷ 8 ∷ 0 ∷ 0 ∷ 0 ∷ 8 ∷ 0 ∷ 0 ∷ 128 ∷ 8 ∷ 0 ∷ 0 ∷ 128 ∷ 0 ∷ 0 ∷ 0 ∷ 16 ∷ 12 ∷ 0 ∷ 0 ∷ 32 ∷ 16 ∷ 0 ∷ 0 ∷ 48 ∷ 12 ∷ 0 ∷ 0 ∷ 32 ∷ 0 ∷ 0 ∷ 0 ∷ 0 ∷ []
unfolding write
integers_written = refl

-- a list is equal to one of its kind with the same entries
lists_written : canonical (arr (more (arr (more (blob (codes "a")) none)) (more (obj (more (blob (codes "a")) none)) (more (arr (more (blob (codes "a")) none)) (more (blob (codes "ab")) none)))))
    ≡ 0 ∷ 0 ∷ 0 ∷ 0 ∷ 32 ∷ 0 ∷ 0 ∷ 208 ∷ 1 ∷ 97 ∷ 0 ∷ 0 ∷ 2 ∷ 0 ∷ 0 ∷ 0 ∷ 8 ∷ 0 ∷ 0 ∷ 128 ∷ 2 ∷ 0 ∷ 0 ∷ 0 ∷ 8 ∷ 0 ∷ 0 ∷ 128
    ∷ 2 ∷ 97 ∷ 98 ∷ 0 ∷ 5 ∷ 0 ∷ 0 ∷ 0 ∷ 12 ∷ 0 ∷ 0 ∷ 208 ∷ 20 ∷ 0 ∷ 0 ∷ 224 ∷ 12 ∷ 0 ∷ 0 ∷ 208 ∷ 28 ∷ 0 ∷ 0 ∷ 128 ∷ []
unfolding write
lists_written = refl

nothing_written : canonical null ≡ 0 ∷ 0 ∷ 0 ∷ 0 ∷ 0 ∷ 0 ∷ 0 ∷ 0 ∷ []
unfolding write
nothing_written = refl
