pub mod SameShape
