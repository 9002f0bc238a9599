mod DigestWords
